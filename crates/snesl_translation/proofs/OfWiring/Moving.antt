-- Values that are moved fit the types that they had.
use Rattle.std.specs.Prelude.{◌≡◌, ℕ, true, List, length, refl}
use Rattle.std.proofs.Common.{sym}
use Rattle.snesl_data.specs.Types.{Ty, bool, is_concrete}
use Rattle.flow_messages.specs.declared.message.Kind.{Kind}
use Rattle.flow_messages.specs.declared.message.Kind.TheVariants.{Bool as BoolKind}
use Rattle.flow_values.specs.laws.Kinds.{both_true}
use Rattle.snesl_translation.specs.Wires.{Wires, wire, two, segments, stream_of, first_wires, second_wires, item_wires}
use Rattle.snesl_translation.specs.Moving.{distributed, kept, mixed}
use Rattle.snesl_translation.proofs.OfWiring.Fitting.{Stream, stream_on, further, no_reads, more_reads, Fits, fits_wire, fits_two, fits_segments, fits_on}
use Rattle.snesl_translation.proofs.OfWiring.Fitting.{first_fits, second_fits, items_fit, flags_fit, stream_fits, single_kinds}
use Rattle.snesl_translation.proofs.OfWiring.Making.{Makes, done_made, then_made, stepped_made}

module _ (at : ℕ) where
  -- of concrete types only
  pub distributed_made : {kinds : List Kind} {t : Ty} (f : ℕ) (w : Wires) → is_concrete t ≡ true → Stream kinds f BoolKind → Fits kinds t w → Makes kinds t (distributed at f w (length kinds))
  distributed_made f (wire u a) concrete h (fits_wire {t = t} single there) = stepped_made t (more_reads there (more_reads h no_reads)) (sym (single_kinds t single))
  distributed_made f (two u v) concrete h (fits_two {s = s} {t = t} hu hv) =
      let both = both_true (is_concrete s) (is_concrete t) concrete in
      then_made _ (distributed_made f u both.0 h hu) (λ on more u' fu.
      then_made _ (distributed_made f v both.1 (stream_on more h) (fits_on more hv)) (λ last more' v' fv.
      done_made (fits_two (fits_on more' fu) fv)))
  distributed_made f (segments g items) concrete h (fits_segments hg hi) = absurd (cc)

  pub kept_made : {kinds : List Kind} {t : Ty} (d : ℕ) (w : Wires) → Stream kinds d BoolKind → Fits kinds t w → Makes kinds t (kept at d w (length kinds))
  kept_made d (wire u a) h (fits_wire {t = t} single there) = stepped_made t (more_reads h (more_reads there no_reads)) (sym (single_kinds t single))
  kept_made d (two u v) h (fits_two hu hv) =
      then_made _ (kept_made d u h hu) (λ on more u' fu.
      then_made _ (kept_made d v (stream_on more h) (fits_on more hv)) (λ last more' v' fv.
      done_made (fits_two (fits_on more' fu) fv)))
  kept_made d (segments g items) h (fits_segments hg hi) =
      then_made _ (stepped_made bool (more_reads h (more_reads hg no_reads)) refl) (λ on more groups fg.
      then_made _ (stepped_made bool (more_reads (stream_on more h) (more_reads (stream_on more hg) no_reads)) refl) (λ on' more' inner fi.
      then_made _ (kept_made (stream_of inner) items (stream_fits fi tt) (fits_on (further more more') hi)) (λ last more'' u fu.
      done_made (fits_segments (stream_on (further more' more'') (stream_fits fg tt)) fu))))

  pub mixed_made : {kinds : List Kind} {t : Ty} (f g : ℕ) (w other : Wires) → Stream kinds f BoolKind → Stream kinds g BoolKind → Fits kinds t w → Fits kinds t other
      → Makes kinds t (mixed at f g w other (length kinds))
  mixed_made f g (wire u a) other hf hg (fits_wire {t = t} single there) k =
      stepped_made t (more_reads hf (more_reads hg (more_reads there (more_reads (stream_fits k single) no_reads)))) (sym (single_kinds t single))
  mixed_made f g (two u v) other hf hg (fits_two hu hv) k =
      then_made _ (mixed_made f g u (first_wires other) hf hg hu (first_fits k)) (λ on more u' fu.
      then_made _ (mixed_made f g v (second_wires other) (stream_on more hf) (stream_on more hg) (fits_on more hv) (fits_on more (second_fits k))) (λ last more' v' fv.
      done_made (fits_two (fits_on more' fu) fv)))
  mixed_made f g (segments p items) other hf hg (fits_segments hp hi) k =
      let hq = flags_fit k in
      then_made _ (stepped_made bool (more_reads hf (more_reads hg (more_reads hp (more_reads hq no_reads)))) refl) (λ on more groups fg.
      then_made _ (stepped_made bool (more_reads (stream_on more hf) (more_reads (stream_on more hp) no_reads)) refl) (λ on' more' inner fi.
      let two_more = further more more' in
      then_made _ (stepped_made bool (more_reads (stream_on two_more hg) (more_reads (stream_on two_more hq) no_reads)) refl) (λ on'' more'' inner' fj.
      let all_more = further two_more more'' in
      then_made _ (mixed_made (stream_of inner) (stream_of inner') items (item_wires other) (stream_on more'' (stream_fits fi tt)) (stream_fits fj tt)
      (fits_on all_more hi) (fits_on all_more (items_fit k))) (λ last more''' u fu.
      done_made (fits_segments (stream_on (further (further more' more'') more''') (stream_fits fg tt)) fu)))))
