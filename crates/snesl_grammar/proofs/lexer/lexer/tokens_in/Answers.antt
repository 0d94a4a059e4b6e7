use Rattle.std.proofs.Common.{arith, ◌∷◌, ◌++◌, [], subst, sym, ap, ◌∙◌, append_assoc, length, length-drop}
use Rattle.std.proofs.lemmas.List.{append-nil}
use Rattle.snesl_grammar.specs.lexer.Lexical.{Tokens}
use Rattle.snesl_grammar.proofs.OfLexer.Lexing.{rest_is, blank_on, found_on, blank_bad, found_bad, bad_now, nothing_left}
use Rattle.snesl_grammar.proofs.lexer.lexer.tokens_in.Goals as goal

pub loop-at-preserved-in-Blank : goal.loop-at-preserved-in-Blank
loop-at-preserved-in-Blank c = record {
  below = omega arith;
  found = λ ts h. c.loop-at.invariant.found ts (blank_on c.args.dialect c.args.text.now c.loop-at.at ts c.in-Blank.ensures.found h);
  bad = λ n h. c.loop-at.invariant.bad n (blank_bad c.args.dialect c.args.text.now c.loop-at.at n c.in-Blank.ensures.found h);
}

pub loop-at-preserved : goal.loop-at-preserved
loop-at-preserved c = record {
  below = omega (arith, c.in-Found.ensures.within, ap length (rest_is c.args.text.now c.loop-at.at), length-drop c.loop-at.at c.args.text.now);
  found = λ ts h.
      subst (Tokens c.args.dialect 0 c.args.text.now)
      (sym (append_assoc c.loop-at.tokens.items (record { kind = c.in-Found.kind; at = c.loop-at.at } ∷ []) ts)
      ∙ ap (λ x. x ++ ts) (sym c.in_ok-push-in-Found.ensures.items))
      (c.loop-at.invariant.found (record { kind = c.in-Found.kind; at = c.loop-at.at } ∷ ts)
      (found_on c.args.dialect c.args.text.now c.loop-at.at c.in-Found.kind c.in-Found.len ts c.in-Found.ensures.found h));
  bad = λ n h. c.loop-at.invariant.bad n
      (found_bad c.args.dialect c.args.text.now c.loop-at.at c.in-Found.kind c.in-Found.len n c.in-Found.ensures.found h);
}

pub returns-in-Bad-clause-bad : goal.returns-in-Bad-clause-bad
returns-in-Bad-clause-bad c =
    c.loop-at.invariant.bad c.loop-at.at (bad_now c.args.dialect c.args.text.now c.loop-at.at (omega arith) c.in-Bad.ensures.found)

pub returns-clause-found : goal.returns-clause-found
returns-clause-found c =
    subst (Tokens c.args.dialect 0 c.args.text.now) (append-nil c.loop-at.tokens.items)
    (c.loop-at.invariant.found [] (nothing_left c.args.dialect c.args.text.now c.loop-at.at (omega arith)))
