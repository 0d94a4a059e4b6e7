-- The values of the options determine what a configuration is.
use Rattle.std.proofs.Common.{◌≡◌, ◌∙◌, ◌<◌, ℕ, List, Option, Some, None, Ok, Err, inl, inr, length, subst, sym}
use Rattle.std.specs.Prelude.{Result, IfErr, IsErrAnd}
use Rattle.snesl_data.specs.declared.refusal.Refusal.{Refusal}
use Rattle.std.specs.List.{All}
use Rattle.clap.specs.Words.{Row, Text, first_of, matches_of}
use Rattle.flow_drives.specs.Configs.{IsLawful, IsWithin}
use Rattle.flow_drives.specs.declared.config.Config.{Config}
use Rattle.flow_messages.specs.Limits.{greatest_capacity}
use Rattle.flow_drives.specs.Limits.{greatest_chunk, most_entries, most_idle_turns, most_threads}
use Rattle.snesl_run.specs.command_line.Settings.{HasFields, RefusesBut, SaysNumber, SaysShare, SaysSo, command_line}

same_number : (value : Option Text) (default a b : ℕ) → SaysNumber value default a → SaysNumber value default b → a ≡ b
same_number None default a b said other = said ∙ sym other
same_number (Some text) default a b said other = sym said.value ∙ other.value

same_share : (value : Option Text) (n m : ℕ) (a b : List ℕ) → n ≡ m → SaysShare value n a → SaysShare value m b → a ≡ b
same_share None n m a b same said other = cc
same_share (Some text) n m a b same said other = said.entries ∙ sym other.entries

-- of two configurations with the same values, both are lawful or neither is
pub lawful_by_fields : (value : Text → Option Text) (a b : Config) → HasFields value a → HasFields value b → IsLawful a → IsLawful b
lawful_by_fields value a b said other lawful =
    let threads = same_number _ 2 a.threads b.threads said.threads other.threads in
    let share = same_share _ a.threads b.threads a.share.items b.share.items threads said.share other.share in
    record {
      capacity = subst (IsWithin greatest_capacity) (same_number _ 256 a.capacity b.capacity said.capacity other.capacity) lawful.capacity;
      chunk = subst (IsWithin greatest_chunk) (same_number _ 16 a.chunk b.chunk said.chunk other.chunk) lawful.chunk;
      threads = subst (IsWithin most_threads) threads lawful.threads;
      idle = subst (IsWithin most_idle_turns) (same_number _ 64 a.idle b.idle said.idle other.idle) lawful.idle;
      entries = subst (λ (entries : List ℕ). IsWithin most_entries (length entries)) share lawful.entries;
      shares = subst (λ (most : ℕ). All (λ entry. entry < most) b.share.items) threads
          (subst (λ (entries : List ℕ). All (λ entry. entry < a.threads) entries) share lawful.shares);
    }

-- what the words say, by the rows that clap finds for them
pub fields_said : (words : List Text) (rows : List Row) (config : Config) → rows ≡ matches_of command_line words → SaysSo words config → HasFields (λ name. first_of name rows) config
fields_said words rows config found said = subst (λ (r : List Row). HasFields (λ name. first_of name r) config) (sym found) said.fields

-- a refusal but where P holds is one but where Q holds, if P follows from Q
pub refuses_but : {P Q : Type 0} → (refusal : Refusal) → (Q → P) → RefusesBut P refusal → RefusesBut Q refusal
refuses_but refusal weaker (inl memory) = inl memory
refuses_but refusal weaker (inr config) = inr (config.0, λ q. config.1 (weaker q))

-- the same of a refusal that is passed on
pub refuses_on : {P Q : Type 0} → (result : Result Config Refusal) (refusal : Refusal) → IsErrAnd result (λ e. e ≡ refusal) → (Q → P) → RefusesBut P refusal → IfErr result (RefusesBut Q)
refuses_on (Ok config) refusal is weaker refuses = absurd is
refuses_on (Err e) refusal is weaker refuses = rw is (refuses_but refusal weaker refuses)
