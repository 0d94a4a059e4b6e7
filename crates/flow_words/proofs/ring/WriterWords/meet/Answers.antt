use Rattle.std.proofs.Common.{◌≡◌, [], length, refl, sym, ap, ◌∙◌, subst}
use Rattle.std.proofs.lemmas.List.{map-append, length-map}
use Rattle.flow_messages.specs.declared.message.Kind.TheVariants.{Unit as UnitKind, Bool as BoolKind, Int as IntKind}
use Rattle.flow_words.specs.declared.words.Group.TheVariants.{None as NoGroup}
use Rattle.flow_words.specs.Words.{unit_word, flag_word, each_said, ints_sent, group_after}
use Rattle.flow_words.specs.Ring.{half_put}
use Rattle.flow_words.proofs.Said.{said-append}
use Rattle.flow_words.proofs.Lists.{prefix_said}
use Rattle.flow_words.proofs.Taking.{which_same, ints_looked, ints_empty}
use Rattle.flow_words.proofs.Quarters.{quarter_grows}
use Rattle.flow_words.proofs.ring.WriterWords.meet.Goals.{in-Units-Units, in-Flags-Flags, in-Ints-Ints}
use Rattle.flow_words.proofs.ring.WriterWords.meet.Goals as goal

pub returns-clause-whole : goal.returns-clause-whole
returns-clause-whole c = elim c.match-self.branch [
  | in-Units-Units w ↦ rw w.self-is refl
  | in-Flags-Flags w ↦ rw w.self-is refl
  | in-Ints-Ints w ↦ rw w.self-is (ap (group_after NoGroup) w.see-in-Ints-Ints.ensures.writer.1 ∙ subst (λ x. half_put x ≡ NoGroup) w.in-Ints-Ints.is-0 c.requires.whole)
]

pub returns-clause-reader : goal.returns-clause-reader
returns-clause-reader c = elim c.match-self.branch [
  | in-Units-Units w ↦ rw w.reader-is (rw w.in-Units-Units.is-1 (which_same UnitKind w.in-Units-Units.reader.end w.see.new.reader.end w.see.ensures.reader.0.0))
  | in-Flags-Flags w ↦ (let l = w.see-in-Flags-Flags.ensures.reader in
      rw w.reader-is (rw w.in-Flags-Flags.is-1 (which_same BoolKind w.in-Flags-Flags.reader.end w.see-in-Flags-Flags.new.reader.end l.0.0)))
  | in-Ints-Ints w ↦ (let l = w.see-in-Ints-Ints.ensures.reader in
      rw w.reader-is (rw w.in-Ints-Ints.is-1 (which_same IntKind w.in-Ints-Ints.reader.end w.see-in-Ints-Ints.new.reader.end l.0.0)))
]

pub returns-clause-received : goal.returns-clause-received
returns-clause-received c = elim c.match-self.branch [
  | in-Units-Units w ↦ rw w.reader-is (rw w.in-Units-Units.is-1 (ap (each_said unit_word) w.see.ensures.reader.1))
  | in-Flags-Flags w ↦ rw w.reader-is (rw w.in-Flags-Flags.is-1 (ap (each_said flag_word) w.see-in-Flags-Flags.ensures.reader.1))
  | in-Ints-Ints w ↦ rw w.reader-is (rw w.in-Ints-Ints.is-1 (ap ints_sent w.see-in-Ints-Ints.ensures.reader.1))
]

pub returns-clause-known : goal.returns-clause-known
returns-clause-known c = elim c.match-self.branch [
  | in-Units-Units w ↦ (rw w.reader-is (rw w.in-Units-Units.is-1 (prefix_said unit_word _ [] _ w.see.ensures.reader.2)))
  | in-Flags-Flags w ↦ (rw w.reader-is (rw w.in-Flags-Flags.is-1 (prefix_said flag_word _ [] _ w.see-in-Flags-Flags.ensures.reader.2)))
  | in-Ints-Ints w ↦ (let l = w.see-in-Ints-Ints.ensures.reader in rw w.reader-is (rw w.in-Ints-Ints.is-1 (ints_looked _ _ _ _ l.1 l.2)))
]

pub returns-clause-fifo : goal.returns-clause-fifo
returns-clause-fifo c = elim c.match-self.branch [
  | in-Units-Units w ↦ rw w.reader-is (rw w.self-is (sym (map-append unit_word _ _) ∙ ap (each_said unit_word) w.see.ensures.fifo))
  | in-Flags-Flags w ↦ rw w.reader-is (rw w.self-is (sym (map-append flag_word _ _) ∙ ap (each_said flag_word) w.see-in-Flags-Flags.ensures.fifo))
  | in-Ints-Ints w ↦ rw w.reader-is (rw w.self-is (sym (said-append NoGroup _ _) ∙ ap ints_sent w.see-in-Ints-Ints.ensures.fifo))
]

pub returns-clause-room : goal.returns-clause-room
returns-clause-room c = elim c.match-self.branch [
  | in-Units-Units w ↦ rw w.reader-is (rw w.self-is (λ none. w.see.ensures.room (sym (length-map _ unit_word) ∙ ap length none)))
  | in-Flags-Flags w ↦ rw w.reader-is (rw w.self-is (λ none. w.see-in-Flags-Flags.ensures.room (sym (length-map _ flag_word) ∙ ap length none)))
  | in-Ints-Ints w ↦ (
      let l = w.see-in-Ints-Ints.ensures in
      let whole = ap (group_after NoGroup) l.writer.1 ∙ subst (λ x. half_put x ≡ NoGroup) w.in-Ints-Ints.is-0 c.requires.whole in
      rw w.reader-is (rw w.self-is (λ none. quarter_grows _ _ (l.room (ints_empty _ _ _ l.fifo whole none)))))
]
