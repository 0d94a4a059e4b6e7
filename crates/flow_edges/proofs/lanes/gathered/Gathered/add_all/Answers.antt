use Rattle.std.proofs.Common.{◌≡◌, ℕ, ℤ, Bool, List, refl, sym, ap}
use Rattle.std.proofs.lemmas.List.{replicate-append-replicate}
use Rattle.std.specs.Prelude.{Some}
use denote.Bor.{Bor}
use Rattle.flow_messages.specs.declared.items.Items.{Items}
use Rattle.flow_messages.specs.declared.items.Items.TheVariants.{Nothing, Units, Flags, Ints}
use Rattle.flow_messages.specs.declared.message.Kind.{Kind}
use Rattle.flow_messages.specs.declared.message.Kind.TheVariants.{Unit as UnitKind, Bool as BoolKind, Int as IntKind}
use Rattle.flow_messages.specs.declared.message.Msg.TheVariants.{Item as ItemMsg}
use Rattle.flow_messages.specs.declared.message.Item.TheVariants.{Unit as UnitItem}
use Rattle.flow_messages.specs.Kinds.{TakesItems}
use Rattle.flow_messages.proofs.Fitting.{takes_own}
use Rattle.flow_edges.specs.lanes.Many.{many_kind}
use Rattle.flow_edges.proofs.lanes.gathered.Gathered.add_all.Goals as goal
use Rattle.flow_edges.proofs.lanes.gathered.Gathered.add_all.Goals.{in_default-via-in-Units+in_default, in_default-via-in-Flags+in_default, in_default-via-in-Ints+in_default}

pub returns-in-Units-Units : goal.returns-in-Units-Units
returns-in-Units-Units c = record {
  kind = sym (ap many_kind c.in-Units-Units.is-0);
  added = rw (c.in-Units-Units.is-0, c.in-Units-Units.is-1) (sym (replicate-append-replicate c.in-Units-Units.gathered c.in-Units-Units.count (ItemMsg UnitItem)));
}

-- what an edge of kind k takes is nothing, or is of the kind
of_its_kind : (k : Kind) (x : Items) → TakesItems (Some k) x → (x ≡ Nothing → ⊥) → ((n : ℕ) → x ≡ Units n → k ≡ UnitKind → ⊥) →
    ((bs : Bor (List Bool)) → x ≡ Flags bs → k ≡ BoolKind → ⊥) → ((ns : Bor (List ℤ)) → x ≡ Ints ns → k ≡ IntKind → ⊥) → ⊥
of_its_kind k Nothing takes none units flags ints = none refl
of_its_kind k (Units n) takes none units flags ints = units n refl ((takes_own k UnitKind).0 takes)
of_its_kind k (Flags bs) takes none units flags ints = flags bs refl ((takes_own k BoolKind).0 takes)
of_its_kind k (Ints ns) takes none units flags ints = ints ns refl ((takes_own k IntKind).0 takes)

pub unreachable-requires : goal.unreachable-requires
unreachable-requires c =
    let its = of_its_kind (many_kind c.args.self.now.items) c.args.items c.requires.kind in
    elim c.in_default.branch [
      | in_default-via-in-Units+in_default w ↦
          (let a = w.in_default in let is = ap many_kind a.is-0 in its a.not-Nothing-1 (λ n has _. a.not-Units-1 n has) (λ bs _ no. cc) (λ ns _ no. cc))
      | in_default-via-in-Flags+in_default w ↦
          (let a = w.in_default in let is = ap many_kind a.is-0 in its a.not-Nothing-1 (λ n _ no. cc) (λ bs has _. a.not-Flags-1 bs has) (λ ns _ no. cc))
      | in_default-via-in-Ints+in_default w ↦
          (let a = w.in_default in let is = ap many_kind a.is-0 in its a.not-Nothing-1 (λ n _ no. cc) (λ bs _ no. cc) (λ ns has _. a.not-Ints-1 ns has))
    ]
