use Rattle.std.proofs.Common.{◌≡◌, ℕ, ◌+◌, ◌<◌, ◌∙◌, List, [], ◌∷◌, ◌++◌, length, take, get_or, ap, sym, arith, append_assoc, length-append, length-take-le}
use Rattle.std.proofs.lemmas.List.{take_more}
use Rattle.flow_edges.proofs.lanes.gathering.append.Goals as goal

-- one item more
appended : {A : Type 0} (xs ys now next : List A) (n : ℕ) (y : A) → n < length ys → now ≡ xs ++ take n ys → next ≡ now ++ y ∷ [] → y ≡ get_or ys n y → next ≡ xs ++ take (n + 1) ys
appended xs ys now next n y low is grown read =
    grown ∙ ap (λ l. l ++ y ∷ []) is ∙ append_assoc xs (take n ys) (y ∷ [])
    ∙ ap (λ l. xs ++ l) (ap (λ z. take n ys ++ z ∷ []) read ∙ sym (take_more ys n y low))

pub loop-at-preserved : goal.loop-at-preserved
loop-at-preserved g c =
    let inv = c.loop-at.invariant in
    record {
      items = appended c.args.items.now.items c.args.more.now c.loop-at.items.items c.push_reserved.new.self.items c.loop-at.at c.index-more-at.result
          c.loop-at-test.true inv.items c.push_reserved.ensures.items c.index-more-at.is;
      capacity = c.push_reserved.ensures.capacity ∙ inv.capacity;
    }

pub push_reserved-requires : goal.push_reserved-requires
push_reserved-requires g c =
    omega (
      arith,
      simp length-append at (ap length c.loop-at.invariant.items),
      length-take-le c.loop-at.at c.args.more.now (omega arith),
    )
