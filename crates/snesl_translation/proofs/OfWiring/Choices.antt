-- Expressions of two parts, bindings, and choices.
use Rattle.std.specs.Prelude.{ℕ, List, [], ◌∷◌, ◌++◌, length, refl}
use Rattle.snesl_data.specs.declared.dialect.Dialect.{Dialect}
use Rattle.snesl_data.specs.Types.{Ty, bool}
use Rattle.snesl_grammar.specs.declared.tree.operator.Prefix.TheVariants.{Not}
use Rattle.snesl_types.specs.Contexts.{Context, bound as bound_to}
use Rattle.flow_messages.specs.declared.message.Kind.{Kind}
use Rattle.flow_nodes.specs.plans.Plans.{the_check}
use Rattle.snesl_translation.specs.Wires.{Wires, stream_of, item_wires, Bound}
use Rattle.snesl_translation.specs.Makings.{Making, and_then, tested}
use Rattle.snesl_translation.specs.FreeNames.{Names, without}
use Rattle.snesl_translation.specs.Translation.{appended, prefix_streams, filtered}
use Rattle.snesl_translation.proofs.Borne.{AreOpen}
use Rattle.snesl_translation.proofs.OfWiring.Fitting.{stream_on, further, no_reads, more_reads, Fits, fits_on, items_fit, flags_fit, stream_fits}
use Rattle.snesl_translation.proofs.OfWiring.Making.{Makes, then_made, tested_made}
use Rattle.snesl_translation.proofs.OfWiring.Bearing.{AlwaysMakes, bears_on, bears_left, bears_right, bears_with}
use Rattle.snesl_translation.proofs.OfWiring.Forms.{appended_made, filtered_made}
use Rattle.snesl_translation.proofs.OfWiring.Builtins.{prefix_made}

module _ (context : Context) where
  pub two_made : (names others : Names) (s r t : Ty) (first second : Bound → ℕ → ℕ → Making Wires) (rest : Wires → Wires → ℕ → Making Wires)
      → AlwaysMakes first names context s → AlwaysMakes second others context r
      → ((kinds : List Kind) (u v : Wires) → Fits kinds s u → Fits kinds r v → Makes kinds t (rest u v (length kinds)))
      → AlwaysMakes (λ bound control next. and_then (first bound control next) (λ u k. and_then (second bound control k) (λ v k. rest u v k))) (names ++ others) context t
  two_made names others s r t first second rest h g made kinds bound control bears units =
      then_made _ (h kinds bound control (bears_left names others bears) units) (λ on more u fu.
      then_made _ (g on bound control (bears_on more (bears_right names others bears)) (stream_on more units)) (λ last more' v fv.
      made last u v (fits_on more' fu) fv))

  pub let_made : (names others : Names) (name : List ℕ) (s t : Ty) (value body : Bound → ℕ → ℕ → Making Wires) → AlwaysMakes value names context s →
      AlwaysMakes body others (bound_to name s ∷ context) t
      → AlwaysMakes (λ bound control next. and_then (value bound control next) (λ u k. body ((name, u) ∷ bound) control k)) (names ++ without name others) context t
  let_made names others name s t value body h g kinds bound control bears units =
      then_made _ (h kinds bound control (bears_left names (without name others) bears) units) (λ on more u fu.
      g on ((name, u) ∷ bound) control (bears_with others name u s fu (bears_on more (bears_right names (without name others) bears))) (stream_on more units))

  pub choice_made : (dialect : Dialect) (at : ℕ) (t : Ty) (conditions names others : Names)
      (condition positive negative : Bound → ℕ → ℕ → Making Wires) → AreOpen names context → AreOpen others context
      → AlwaysMakes condition conditions context bool → AlwaysMakes positive names context t → AlwaysMakes negative others context t
      → AlwaysMakes (λ bound control next.
      and_then (condition bound control next) (λ d k.
      and_then (filtered at names positive bound (stream_of d) k) (λ u k.
      and_then (prefix_streams dialect at Not d k) (λ e k.
      and_then (filtered at others negative bound (stream_of e) k) (λ v k.
      and_then (appended at u v k) (λ w k. tested at the_check (stream_of w ∷ []) (item_wires w) k)))))) (conditions ++ (names ++ others)) context t
  choice_made dialect at t conditions names others condition positive negative usable usable' c h g kinds bound control bears units =
      let branches = bears_right conditions (names ++ others) bears in
      then_made _ (c kinds bound control (bears_left conditions (names ++ others) bears) units) (λ on more d fd.
      then_made _ (filtered_made at context names t positive usable h on bound (stream_of d) (bears_on more (bears_left names others branches)) (stream_fits fd tt)) (λ on' more' u fu.
      then_made _ (prefix_made dialect at Not bool bool refl (fits_on more' fd)) (λ on'' more'' e fe.
      then_made _ (filtered_made at context others t negative usable' g on'' bound (stream_of e)
      (bears_on (further (further more more') more'') (bears_right names others branches)) (stream_fits fe tt)) (λ on''' more''' v fv.
      then_made _ (appended_made at u v (fits_on (further more'' more''') fu) fv) (λ last _ w fw.
      tested_made (more_reads (flags_fit fw) no_reads) refl (items_fit fw))))))
