-- The ends of a share, where one of them changed.
use Rattle.std.proofs.Common.{◌≡◌, ℕ, zero, suc, ◌<◌, List, [], ◌∷◌, length, ap, sym, ◌∙◌, get_or, set, arith}
use Rattle.std.specs.Prelude.{Option, Some, None}
use Rattle.std.proofs.Common.{subst}
use Rattle.std.proofs.lemmas.List.{get_or-set_same, length-set}
use Rattle.flow_edges.specs.declared.lanes.ends.LaneWriter.{LaneWriter}
use Rattle.flow_edges.specs.declared.lanes.ends.LaneReader.{LaneReader}
use Rattle.flow_edges.specs.declared.lanes.rings.Rings.{Rings}
use Rattle.flow_edges.specs.lanes.Lane.{IsLane, SameWriter, SameReader}
use Rattle.flow_edges.specs.lanes.Rings.{SameRings, SameWriters, SameReaders, Joins, writer_at, reader_at}
use Rattle.flow_edges.specs.lanes.SameEnds.{same_writers_refl, same_readers_refl}

writers_after : (ws : List (Option LaneWriter)) (e : ℕ) (d old : Option LaneWriter) (w v : LaneWriter) → old ≡ get_or ws e d → old ≡ Some w →
    e < length ws → SameWriter w v → (k : ℕ) → SameWriters (get_or ws k None) (get_or (set ws e (Some v)) k None)
writers_after [] e d old w v is was h same k = absurd (omega (arith, h))
writers_after (x ∷ ws) zero d old w v is was h same zero = subst (λ o. SameWriters o (Some v)) (sym was ∙ is) same
writers_after (x ∷ ws) zero d old w v is was h same (suc k) = same_writers_refl (get_or ws k None)
writers_after (x ∷ ws) (suc e) d old w v is was h same zero = same_writers_refl x
writers_after (x ∷ ws) (suc e) d old w v is was h same (suc k) = let up : suc e < suc (length ws) = h in writers_after ws e d old w v is was (omega arith) same k

readers_after : (rs : List (Option LaneReader)) (e : ℕ) (d old : Option LaneReader) (r v : LaneReader) → old ≡ get_or rs e d → old ≡ Some r →
    e < length rs → SameReader r v → (k : ℕ) → SameReaders (get_or rs k None) (get_or (set rs e (Some v)) k None)
readers_after [] e d old r v is was h same k = absurd (omega (arith, h))
readers_after (x ∷ rs) zero d old r v is was h same zero = subst (λ o. SameReaders o (Some v)) (sym was ∙ is) same
readers_after (x ∷ rs) zero d old r v is was h same (suc k) = same_readers_refl (get_or rs k None)
readers_after (x ∷ rs) (suc e) d old r v is was h same zero = same_readers_refl x
readers_after (x ∷ rs) (suc e) d old r v is was h same (suc k) = let up : suc e < suc (length rs) = h in readers_after rs e d old r v is was (omega arith) same k

module _ (a b : Rings) (e : ℕ) where
  pub same_writers : (d old : Option LaneWriter) (w v : LaneWriter) → old ≡ get_or a.writers.items e d → old ≡ Some w → e < length a.writers.items →
      SameWriter w v → b.writers.items ≡ set a.writers.items e (Some v) → b.readers.items ≡ a.readers.items → SameRings a b
  same_writers d old w v is was h same ws rs = record {
    writer_count = ap length ws ∙ length-set a.writers.items e (Some v);
    reader_count = ap length rs;
    writers = λ k. subst (λ (l : List (Option LaneWriter)). SameWriters (writer_at a k) (get_or l k None)) (sym ws) (writers_after a.writers.items e d old w v is was h same k);
    readers = λ k. subst (λ (l : List (Option LaneReader)). SameReaders (reader_at a k) (get_or l k None)) (sym rs) (same_readers_refl (reader_at a k));
  }

  pub same_readers : (d old : Option LaneReader) (r v : LaneReader) → old ≡ get_or a.readers.items e d → old ≡ Some r → e < length a.readers.items →
      SameReader r v → b.readers.items ≡ set a.readers.items e (Some v) → b.writers.items ≡ a.writers.items → SameRings a b
  same_readers d old r v is was h same rs ws = record {
    writer_count = ap length ws;
    reader_count = ap length rs ∙ length-set a.readers.items e (Some v);
    writers = λ k. subst (λ (l : List (Option LaneWriter)). SameWriters (writer_at a k) (get_or l k None)) (sym ws) (same_writers_refl (writer_at a k));
    readers = λ k. subst (λ (l : List (Option LaneReader)). SameReaders (reader_at a k) (get_or l k None)) (sym rs) (readers_after a.readers.items e d old r v is was h same k);
  }

  pub same_both : (d old : Option LaneWriter) (w v : LaneWriter) → old ≡ get_or a.writers.items e d → old ≡ Some w → e < length a.writers.items →
      SameWriter w v → b.writers.items ≡ set a.writers.items e (Some v)
      → (c was : Option LaneReader) (r s : LaneReader) → was ≡ get_or a.readers.items e c → was ≡ Some r → e < length a.readers.items → SameReader r s
      → b.readers.items ≡ set a.readers.items e (Some s) → SameRings a b
  same_both d old w v is was h same ws c had r s here seen low alike rs = record {
    writer_count = ap length ws ∙ length-set a.writers.items e (Some v);
    reader_count = ap length rs ∙ length-set a.readers.items e (Some s);
    writers = λ k. subst (λ (l : List (Option LaneWriter)). SameWriters (writer_at a k) (get_or l k None)) (sym ws) (writers_after a.writers.items e d old w v is was h same k);
    readers = λ k. subst (λ (l : List (Option LaneReader)). SameReaders (reader_at a k) (get_or l k None)) (sym rs) (readers_after a.readers.items e c had r s here seen low alike k);
  }

-- two ends that were put in place join
pub joined_in_place : (ws : List (Option LaneWriter)) (rs : List (Option LaneReader)) (e : ℕ) (w : LaneWriter) (r : LaneReader) → e < length ws →
    e < length rs → IsLane w r → Joins (get_or (set ws e (Some w)) e None) (get_or (set rs e (Some r)) e None)
joined_in_place ws rs e w r hw hr edge =
    subst (λ o. Joins o (get_or (set rs e (Some r)) e None)) (sym (get_or-set_same ws e (Some w) None hw))
    (subst (λ o. Joins (Some w) o) (sym (get_or-set_same rs e (Some r) None hr)) edge)
