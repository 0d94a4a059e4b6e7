-- Sequences: one after another, joined, parted, and filtered.
use Rattle.std.specs.Prelude.{ℕ, List, length, refl}
use Rattle.snesl_data.specs.Types.{Ty, bool, pair, seq}
use Rattle.snesl_types.specs.Contexts.{Context}
use Rattle.flow_messages.specs.declared.message.Kind.{Kind}
use Rattle.flow_messages.specs.declared.message.Kind.TheVariants.{Unit as UnitKind, Bool as BoolKind}
use Rattle.snesl_translation.specs.Wires.{Wires, stream_of, item_wires, Bound}
use Rattle.snesl_translation.specs.Makings.{Making}
use Rattle.snesl_translation.specs.FreeNames.{Names}
use Rattle.snesl_translation.specs.Moving.{kept}
use Rattle.snesl_translation.specs.Translation.{appended, concatenated, parted, units_step, filtered, single}
use Rattle.snesl_translation.proofs.Borne.{AreOpen}
use Rattle.snesl_translation.proofs.OfWiring.Fitting.{Stream, stream_on, further, no_reads, more_reads, Fits, fits_segments, fits_on, first_fits, second_fits, items_fit, flags_fit, stream_fits}
use Rattle.snesl_translation.proofs.OfWiring.Making.{IsMade, Makes, done_made, then_made, stepped_made, one_written}
use Rattle.snesl_translation.proofs.OfWiring.Moving.{kept_made, mixed_made}
use Rattle.snesl_translation.proofs.OfWiring.Bearing.{Bears, AlwaysMakes, bears_on, all_moved_made}

module _ (at : ℕ) where
  pub appended_made : {kinds : List Kind} {t : Ty} (u v : Wires) → Fits kinds (seq t) u → Fits kinds (seq t) v → Makes kinds (seq t) (appended at u v (length kinds))
  appended_made u v hu hv =
      then_made _ (stepped_made bool (more_reads (flags_fit hu) (more_reads (flags_fit hv) no_reads)) refl) (λ on more flags fh.
      then_made _ (mixed_made at (stream_of u) (stream_of v) (item_wires u) (item_wires v) (stream_on more (flags_fit hu))
      (stream_on more (flags_fit hv)) (fits_on more (items_fit hu)) (fits_on more (items_fit hv)))
      (λ last more' w fw. done_made (fits_segments (stream_on more' (stream_fits fh tt)) fw)))

  pub concatenated_made : {kinds : List Kind} {t : Ty} (u : Wires) → Fits kinds (seq (seq t)) u → Makes kinds (seq t) (concatenated at u (length kinds))
  concatenated_made u h =
      then_made _ (stepped_made bool (more_reads (flags_fit h) (more_reads (flags_fit (items_fit h)) no_reads)) refl) (λ on more flags fh.
      done_made (fits_segments (stream_fits fh tt) (fits_on more (items_fit (items_fit h)))))

  pub parted_made : {kinds : List Kind} {t : Ty} (u v : Wires) → Fits kinds (seq t) u → Fits kinds (seq bool) v → Makes kinds (seq (seq t)) (parted at u v (length kinds))
  parted_made u v hu hv =
      then_made _ (stepped_made (pair bool bool) (more_reads (flags_fit hv) (more_reads (stream_fits (items_fit hv) tt) (more_reads (flags_fit hu) no_reads))) refl) (λ on more flags fh.
      done_made (fits_segments (stream_fits (first_fits fh) tt) (fits_segments (stream_fits (second_fits fh) tt) (fits_on more (items_fit hu)))))

  -- a control stream of the elements of a sequence
  pub units_made : {kinds : List Kind} (f : ℕ) → Stream kinds f BoolKind → IsMade kinds (units_step at f (length kinds)) (λ on w. Stream on (stream_of w) UnitKind)
  units_made f h = one_written UnitKind (more_reads h no_reads) refl

  module _ (context : Context) (names : Names) (t : Ty) (item : Bound → ℕ → ℕ → Making Wires) (usable : AreOpen names context) (makes : AlwaysMakes item names context t) where
    pub filtered_made : (kinds : List Kind) (bound : Bound) (d : ℕ) → Bears kinds bound names context → Stream kinds d BoolKind → Makes kinds (seq t) (filtered at names item bound d (length kinds))
    filtered_made kinds bound d h truths =
        then_made _ (stepped_made bool (more_reads truths no_reads) refl) (λ on more flags ff.
        then_made _ (all_moved_made d (kept at d) context (λ kinds w bytes s there is fit. kept_made at d w there fit) names bound on usable
        (stream_on more truths) (bears_on more h)) (λ on' more' inner fi.
        then_made _ (units_made (stream_of flags) (stream_on more' (stream_fits ff tt))) (λ on'' more'' control fc.
        then_made _ (makes on'' inner (stream_of control) (bears_on more'' fi) fc) (λ last more''' w fw.
        done_made (fits_segments (stream_on (further (further more' more'') more''') (stream_fits ff tt)) fw)))))

    pub single_made : (kinds : List Kind) (bound : Bound) (control : ℕ) → Bears kinds bound names context → Stream kinds control UnitKind →
        Makes kinds (seq t) (single at names item bound control (length kinds))
    single_made kinds bound control h units =
        then_made _ (stepped_made bool (more_reads units no_reads) refl) (λ on more d fd. filtered_made on bound (stream_of d) (bears_on more h) (stream_fits fd tt))
