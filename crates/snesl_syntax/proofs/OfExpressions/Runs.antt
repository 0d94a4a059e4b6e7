-- A whole expression is read, and closing the forms after it gives its tree.
use Rattle.std.proofs.Common.{◌≡◌, ℕ, zero, suc, ◌+◌, ◌≤◌, ◌<◌, Bool, true, false, cond, List, [], ◌∷◌, ◌++◌, length, Option, Some, None, Ok, refl, sym, ◌∙◌, ap, max, arith, le-leb, lt-ltb}
use Rattle.std.proofs.lemmas.Bool.{lt-leb}
use Rattle.snesl_grammar.specs.declared.lexer.token.TokenKind.TheVariants as kinds
use Rattle.snesl_grammar.specs.declared.lexer.token.Token.{Token}
use Rattle.snesl_grammar.specs.declared.tree.operator.Operator.{Operator}
use Rattle.snesl_grammar.specs.declared.tree.operator.Operator.TheVariants.{Or, And, Equal, Less, AtMost, Greater, AtLeast, Append, Add, Subtract, Multiply, Divide, Remainder, Index}
use Rattle.snesl_grammar.specs.declared.tree.operator.Prefix.{Prefix}
use Rattle.snesl_grammar.specs.declared.tree.operator.Prefix.TheVariants.{Negate, Not}
use Rattle.snesl_grammar.specs.declared.tree.operator.Builtin.{Builtin}
use Rattle.snesl_grammar.specs.declared.tree.operator.Builtin.TheVariants as builtins
use Rattle.snesl_grammar.specs.declared.tree.span.Span.{Span}
use Rattle.snesl_grammar.specs.tree.Tree.{Tree, Trees, Binders, truth, binary, prefix, call, apply, binding, choice, literal, each, none, none_bound, always, depth, depth_of_all, depth_of_binders}
use Rattle.snesl_grammar.specs.Operators.{level, left_level, prefix_level, sign, prefix_sign, truth_word, word}
use Rattle.snesl_grammar.specs.Expressions.{token, name_token, added, bound_also, binder_count, greatest_binder_count, Whole, integer_rule}
use Rattle.snesl_grammar.specs.Expressions.{truth_rule, name_rule, binary_rule, prefix_rule, call_rule, apply_rule, group_rule, pair_rule, let_rule}
use Rattle.snesl_grammar.specs.Expressions.{if_rule, literal_rule, filter_rule, each_rule, each_where_rule, WholeArguments, one_rule, more_rule}
use Rattle.snesl_grammar.specs.Expressions.{WholeBinders, one_binder, more_binders}
use Rattle.snesl_syntax.specs.expressions.Readers.{TokenMove, at_any_depth, after_tokens}
use Rattle.snesl_syntax.specs.expressions.Machine.{Frame, in_binary, in_prefix, in_call, in_apply, in_group, in_second, in_value, in_let_body, in_condition}
use Rattle.snesl_syntax.specs.expressions.Machine.{in_positive, in_negative, in_braces, in_filter, in_source, in_each_condition, State, operand, after}
use Rattle.snesl_syntax.specs.expressions.Machine.{opening, let_name, binder_name, reduce, floor, open_move, at_level, infix_move, comma_move, paren_move}
use Rattle.snesl_syntax.specs.expressions.Machine.{brace_move, colon_move, bar_move, semicolon_move, in_move, then_move, else_move, closing_move, joining}
use Rattle.snesl_syntax.specs.expressions.Machine.{token_move, alone, expressions}
use Rattle.snesl_syntax.proofs.OfExpressions.Reading.{goes_on, steps_on, fits_step}
use Rattle.snesl_syntax.proofs.OfExpressions.Piles.{reduce_closes, reduce_keeps}
use Rattle.snesl_syntax.proofs.OfExpressions.Depths.{depth_pos, depth_added, arguments_pos, depth_bound_also, count_bound_also}

-- reading the tokens leads from a state to another
pub record Goes (d : ℕ) (from : State) (ts : List Token) (to : State) : Type 0 where
  pub reads : after_tokens expressions d from ts ≡ Ok to

no_tokens : {d : ℕ} {s : State} → Goes d s [] s
no_tokens = record { reads = refl }

-- tokens that lead to a state, and those after them
goes_then : {d : ℕ} {s r n : State} {ts us : List Token} → Goes d s ts r → Goes d r us n → Goes d s (ts ++ us) n
goes_then {d = d} {s = s} {r = r} {ts = ts} {us = us} first further =
    record { reads = goes_on expressions d s r ts us first.reads ∙ further.reads }

-- a token whose move is within the depth
step_then : {d : ℕ} {s r n : State} (t : Token) {ts : List Token} (want : ℕ) → token_move s t.kind t.at ≡ Some (record { want = want; next = r })
    → want ≤ d → Goes d r ts n → Goes d s (t ∷ ts) n
step_then {d = d} {s = s} {r = r} t {ts = ts} want e h further =
    record { reads = steps_on expressions d s r t ts (fits_step expressions d s r t want e h) ∙ further.reads }

-- a token whose move is free
free_then : {d : ℕ} {s r n : State} (t : Token) {ts : List Token} → token_move s t.kind t.at ≡ at_any_depth r → Goes d r ts n → Goes d s (t ∷ ts) n
free_then t e further = step_then t 0 e (omega arith) further

-- a token that opens a form
open_then : {d : ℕ} {s r n : State} (t : Token) (frames : List Frame) {ts : List Token} → token_move s t.kind t.at ≡ open_move frames r
    → suc (suc (length frames)) ≤ d → Goes d r ts n → Goes d s (t ∷ ts) n
open_then t frames e h further = step_then t (suc (suc (length frames))) e h further

-- a move at a level, where a form that binds so tightly may stand
pub at_level_fits : (tightness : ℕ) (frames : List Frame) (found : Option (TokenMove State)) → floor frames ≤ tightness → at_level tightness frames found ≡ found
at_level_fits tightness frames found h = ap (λ b. cond b found None) (le-leb (floor frames) tightness h)

-- the innermost frame stays open at this tightness
abbrev pub Stays : List Frame → ℕ → Type 0
Stays (in_binary at operator left ∷ frames) k = level operator < k
Stays (in_prefix at operator ∷ frames) k = prefix_level < k
Stays (in_let_body at place value ∷ frames) k = 0 < k
Stays (in_negative at condition positive ∷ frames) k = 0 < k
Stays _ k = Unit {0}

pub reduce_stays : (k : ℕ) (frames : List Frame) (last : Tree) → Stays frames k → reduce k frames last ≡ record { frames = frames; last = last }
reduce_stays k [] last h = refl
reduce_stays k (in_binary at operator left ∷ frames) last h =
    reduce_keeps k (in_binary at operator left) frames last (lt-leb k (level operator) h)
reduce_stays k (in_prefix at operator ∷ frames) last h =
    reduce_keeps k (in_prefix at operator) frames last (lt-leb k prefix_level h)
reduce_stays k (in_let_body at place value ∷ frames) last h =
    reduce_keeps k (in_let_body at place value) frames last (lt-leb k 0 h)
reduce_stays k (in_negative at condition positive ∷ frames) last h =
    reduce_keeps k (in_negative at condition positive) frames last (lt-leb k 0 h)
reduce_stays k (frame ∷ frames) last h = refl

pub left_levels : (o : Operator) → (level o ≤ left_level o) × (1 ≤ left_level o) × (prefix_level ≤ level o → prefix_level < left_level o)
left_levels Or = omega arith
left_levels And = omega arith
left_levels Equal = omega arith
left_levels Less = omega arith
left_levels AtMost = omega arith
left_levels Greater = omega arith
left_levels AtLeast = omega arith
left_levels Append = omega arith
left_levels Add = omega arith
left_levels Subtract = omega arith
left_levels Multiply = omega arith
left_levels Divide = omega arith
left_levels Remainder = omega arith
left_levels Index = omega arith

-- where an operator may stand, the frames outside stay open
pub stays_outside : (frames : List Frame) (o : Operator) → floor frames ≤ level o → Stays frames (left_level o)
stays_outside [] o h = tt
stays_outside (in_binary at operator left ∷ frames) o h = let b = left_levels o in omega arith
stays_outside (in_prefix at operator ∷ frames) o h = (left_levels o).2 h
stays_outside (in_let_body at place value ∷ frames) o h = (left_levels o).1
stays_outside (in_negative at condition positive ∷ frames) o h = (left_levels o).1
stays_outside (frame ∷ frames) o h = tt

pub reduce_binary : (k : ℕ) (frames : List Frame) (at : ℕ) (o : Operator) (left last : Tree) → k ≤ level o
    → reduce k (in_binary at o left ∷ frames) last ≡ reduce k frames (binary at o left last)
reduce_binary k frames at o left last h =
    reduce_closes k (in_binary at o left) frames last (le-leb k (level o) h)

pub reduce_prefix : (k : ℕ) (frames : List Frame) (at : ℕ) (o : Prefix) (last : Tree) → k ≤ prefix_level
    → reduce k (in_prefix at o ∷ frames) last ≡ reduce k frames (prefix at o last)
reduce_prefix k frames at o last h =
    reduce_closes k (in_prefix at o) frames last (le-leb k prefix_level h)

pub reduce_let_body : (k : ℕ) (frames : List Frame) (at : ℕ) (place : Span) (value last : Tree) → k ≤ 0
    → reduce k (in_let_body at place value ∷ frames) last ≡ reduce k frames (binding at place value last)
reduce_let_body zero frames at place value last h = refl
reduce_let_body (suc k) frames at place value last h = absurd (omega arith)

pub reduce_negative : (k : ℕ) (frames : List Frame) (at : ℕ) (condition positive last : Tree) → k ≤ 0
    → reduce k (in_negative at condition positive ∷ frames) last ≡ reduce k frames (choice at condition positive last)
reduce_negative zero frames at condition positive last h = refl
reduce_negative (suc k) frames at condition positive last h = absurd (omega arith)

pub move_sign : (frames : List Frame) (last : Tree) (o : Operator) (at : ℕ) → token_move (after frames last) (sign o) at ≡ joining o at frames last
move_sign frames last Or at = refl
move_sign frames last And at = refl
move_sign frames last Equal at = refl
move_sign frames last Less at = refl
move_sign frames last AtMost at = refl
move_sign frames last Greater at = refl
move_sign frames last AtLeast at = refl
move_sign frames last Append at = refl
move_sign frames last Add at = refl
move_sign frames last Subtract at = refl
move_sign frames last Multiply at = refl
move_sign frames last Divide at = refl
move_sign frames last Remainder at = refl
move_sign frames last Index at = refl

pub move_prefix : (frames : List Frame) (o : Prefix) (at : ℕ)
    → token_move (operand frames) (prefix_sign o) at ≡ at_level prefix_level frames (open_move frames (operand (in_prefix at o ∷ frames)))
move_prefix frames Negate at = refl
move_prefix frames Not at = refl

pub move_truth : (frames : List Frame) (value : Bool) (at : ℕ) → token_move (operand frames) (truth_word value) at ≡ at_any_depth (after frames (truth at value))
move_truth frames true at = refl
move_truth frames false at = refl

pub move_word : (frames : List Frame) (f : Builtin) (at : ℕ) → token_move (operand frames) (word f) at ≡ open_move frames (opening frames at f)
move_word frames builtins.Iota at = refl
move_word frames builtins.ScanAdd at = refl
move_word frames builtins.ReduceAdd at = refl
move_word frames builtins.ReduceMax at = refl
move_word frames builtins.ReduceAnd at = refl
move_word frames builtins.ReduceOr at = refl
move_word frames builtins.Length at = refl
move_word frames builtins.Concat at = refl
move_word frames builtins.Part at = refl
move_word frames builtins.The at = refl
move_word frames builtins.Tab at = refl
move_word frames builtins.Seq at = refl
move_word frames builtins.Fst at = refl
move_word frames builtins.Snd at = refl

-- what is left after a whole expression: closing all down to its level gives it
pub record Reads (d : ℕ) (frames : List Frame) (here : ℕ) (ts : List Token) (tree : Tree) : Type 0 where
  pub left : List Frame
  pub last : Tree
  pub runs : Goes d (operand frames) ts (after left last)
  pub folds : (k : ℕ) → k ≤ here → reduce k left last ≡ reduce k frames tree

-- what is read before an operator is its left operand
infix_then : {d : ℕ} {frames : List Frame} {ts us : List Token} {tree : Tree} {n : State} (at : ℕ) (o : Operator)
    → Reads d frames (left_level o) ts tree → floor frames ≤ level o → suc (depth tree + length frames) ≤ d
    → Goes d (operand (in_binary at o tree ∷ frames)) us n → Goes d (operand frames) (ts ++ (token (sign o) at ∷ us)) n
infix_then {frames = frames} {tree = tree} at o r low h further =
    let found : Option (TokenMove State) = Some (record { want = suc (depth tree + length frames); next = operand (in_binary at o tree ∷ frames) }) in
    goes_then r.runs (step_then (token (sign o) at) (suc (depth tree + length frames))
    (move_sign r.left r.last o at
    ∙ ap (infix_move o at) (r.folds (left_level o) (omega arith) ∙ reduce_stays (left_level o) frames tree (stays_outside frames o low))
    ∙ at_level_fits (level o) frames found low) h further)

-- what a closing token does after an expression, it does after what is left of it
closed_alike : (found : List Frame → Tree → Option (TokenMove State)) {d : ℕ} {frames : List Frame} {ts : List Token} {tree : Tree}
    (r : Reads d frames 0 ts tree) → closing_move found r.left r.last ≡ closing_move found frames tree
closed_alike found r = ap (λ x. found x.frames x.last) (r.folds 0 (omega arith))

-- an expression, and a token that ends it as a part
part_then : (found : List Frame → Tree → Option (TokenMove State)) {d : ℕ} {frames : List Frame} {ts us : List Token} {tree : Tree} {next n : State} (t : Token)
    → Reads d frames 0 ts tree → ((left : List Frame) (last : Tree) → token_move (after left last) t.kind t.at ≡ closing_move found left last)
    → closing_move found frames tree ≡ at_any_depth next → Goes d next us n → Goes d (operand frames) (ts ++ (t ∷ us)) n
part_then found t r moves closes further =
    goes_then r.runs (free_then t (moves r.left r.last ∙ closed_alike found r ∙ closes) further)

-- a form that leaves nothing to close
at_once : {d here : ℕ} {frames : List Frame} {ts : List Token} {tree : Tree} → Goes d (operand frames) ts (after frames tree) → Reads d frames here ts tree
at_once {frames = frames} {tree = tree} runs = record { left = frames; last = tree; runs = runs; folds = λ k below. refl }

-- the last part of a form that no token closes: what closes the part closes the form
closes_last : {d here inside : ℕ} {frames inner : List Frame} {ts us : List Token} {part tree : Tree} → Reads d inner inside us part
    → ((k : ℕ) → k ≤ here → (k ≤ inside) × (reduce k inner part ≡ reduce k frames tree))
    → ((n : State) → Goes d (operand inner) us n → Goes d (operand frames) ts n) → Reads d frames here ts tree
closes_last r closes before =
    record { left = r.left; last = r.last; runs = before (after r.left r.last) r.runs; folds = λ k h. let c = closes k h in r.folds k c.0 ∙ c.1 }

-- a frame that holds arguments or items, which a comma parts
pub record HoldsArguments (frame : Trees → Frame) : Type 0 where
  pub any_may_stand : (given : Trees) (frames : List Frame) → floor (frame given ∷ frames) ≤ 0
  pub comma_adds : (given : Trees) (frames : List Frame) (last : Tree)
      → closing_move comma_move (frame given ∷ frames) last ≡ at_any_depth (operand (frame (added given last) ∷ frames))

call_holds : (at : ℕ) (f : Builtin) → HoldsArguments (in_call at f)
call_holds at f = record { any_may_stand = λ given frames. omega arith; comma_adds = λ given frames last. refl }

apply_holds : (f : Span) → HoldsArguments (in_apply f)
apply_holds f = record { any_may_stand = λ given frames. omega arith; comma_adds = λ given frames last. refl }

braces_hold : (at : ℕ) → HoldsArguments (in_braces at)
braces_hold at = record { any_may_stand = λ given frames. omega arith; comma_adds = λ given frames last. refl }

-- what is left after arguments: closing all gives the last one, in the frame with those before it
pub record ReadsArguments (d : ℕ) (frames : List Frame) (frame : Trees → Frame) (ts : List Token) (arguments : Trees) : Type 0 where
  pub left : List Frame
  pub last : Tree
  pub front : Trees
  pub final : Tree
  pub runs : Goes d (operand (frame none ∷ frames)) ts (after left last)
  pub folds : reduce 0 left last ≡ reduce 0 (frame front ∷ frames) final
  pub parts : added front final ≡ arguments

-- the last argument after those before it
last_argument : {d : ℕ} {frames : List Frame} {frame : Trees → Frame} (given : Trees) {ts us : List Token} {final : Tree}
    → Reads d (frame given ∷ frames) 0 us final
    → ((n : State) → Goes d (operand (frame given ∷ frames)) us n → Goes d (operand (frame none ∷ frames)) ts n)
    → ReadsArguments d frames frame ts (added given final)
last_argument given {final = final} r before =
    record {
      left = r.left;
      last = r.last;
      front = given;
      final = final;
      runs = before (after r.left r.last) r.runs;
      folds = r.folds 0 (omega arith);
      parts = refl;
    }

-- arguments, and a token that ends them
arguments_then : (found : List Frame → Tree → Option (TokenMove State)) (make : Trees → State) {d : ℕ} {frames : List Frame} {frame : Trees → Frame}
    {ts us : List Token} {arguments : Trees} {n : State} (t : Token)
    → ReadsArguments d frames frame ts arguments → ((left : List Frame) (last : Tree) → token_move (after left last) t.kind t.at ≡ closing_move found left last)
    → ((front : Trees) (final : Tree) → closing_move found (frame front ∷ frames) final ≡ at_any_depth (make (added front final)))
    → Goes d (make arguments) us n → Goes d (operand (frame none ∷ frames)) (ts ++ (t ∷ us)) n
arguments_then found make t r moves closes further =
    goes_then r.runs (free_then t
    (moves r.left r.last ∙ ap (λ x. found x.frames x.last) r.folds ∙ closes r.front r.final ∙ ap (λ x. at_any_depth (make x)) r.parts) further)

-- what is left after binders: closing all gives the last source, in the frame with the binders before it
pub record ReadsBinders (d : ℕ) (frames : List Frame) (at : ℕ) (body : Tree) (ts : List Token) (binders : Binders) : Type 0 where
  pub left : List Frame
  pub last : Tree
  pub front : Binders
  pub place : Span
  pub source : Tree
  pub runs : Goes d (binder_name frames at body none_bound) ts (after left last)
  pub folds : reduce 0 left last ≡ reduce 0 (in_source at body front place ∷ frames) source
  pub parts : bound_also front place source ≡ binders

-- the last binder after those before it
last_binder : {d : ℕ} {frames : List Frame} {at : ℕ} {body : Tree} {binders : Binders} {place : Span} {ts us : List Token} {source : Tree}
    → Reads d (in_source at body binders place ∷ frames) 0 us source
    → ((n : State) → Goes d (operand (in_source at body binders place ∷ frames)) us n → Goes d (binder_name frames at body none_bound) ts n)
    → ReadsBinders d frames at body ts (bound_also binders place source)
last_binder {binders = binders} {place = place} {source = source} r before =
    record {
      left = r.left;
      last = r.last;
      front = binders;
      place = place;
      source = source;
      runs = before (after r.left r.last) r.runs;
      folds = r.folds 0 (omega arith);
      parts = refl;
    }

-- binders, and a token that ends them
binders_then : (found : List Frame → Tree → Option (TokenMove State)) {d at : ℕ} {frames : List Frame} {body : Tree}
    {ts us : List Token} {binders : Binders} {next n : State} (t : Token)
    → ReadsBinders d frames at body ts binders → ((left : List Frame) (last : Tree) → token_move (after left last) t.kind t.at ≡ closing_move found left last)
    → ((front : Binders) (place : Span) (source : Tree) → bound_also front place source ≡ binders
    → closing_move found (in_source at body front place ∷ frames) source ≡ at_any_depth next)
    → Goes d next us n → Goes d (binder_name frames at body none_bound) (ts ++ (t ∷ us)) n
binders_then found t r moves closes further =
    goes_then r.runs (free_then t
    (moves r.left r.last ∙ ap (λ x. found x.frames x.last) r.folds ∙ closes r.front r.place r.source r.parts) further)

-- a semicolon after fewer than eight binders
semicolon_ends : (at : ℕ) (frames : List Frame) (body : Tree) (binders : Binders) → binder_count binders < greatest_binder_count
    → (front : Binders) (place : Span) (source : Tree) → bound_also front place source ≡ binders
    → closing_move semicolon_move (in_source at body front place ∷ frames) source ≡ at_any_depth (binder_name frames at body binders)
semicolon_ends at frames body binders few front place source same =
    let count : binder_count binders ≡ suc (binder_count front) = ap binder_count (sym same) ∙ count_bound_also front place source in
    let found : Option (TokenMove State) = at_any_depth (binder_name frames at body (bound_also front place source)) in
    ap (λ b. cond b found None) (lt-ltb (suc (binder_count front)) greatest_binder_count (omega arith))
    ∙ ap (λ x. at_any_depth (binder_name frames at body x)) same

-- a binder's name and its `in`
named_then : {d at : ℕ} {frames : List Frame} {body : Tree} {binders : Binders} {n : State} (place : Span) (within : ℕ) {ts : List Token}
    → Goes d (operand (in_source at body binders place ∷ frames)) ts n
    → Goes d (binder_name frames at body binders) (name_token place ∷ token kinds.In within ∷ ts) n
named_then place within further = free_then (name_token place) refl (free_then (token kinds.In within) refl further)

mutual
  -- a whole expression, where its level may stand, within the depth
  pub whole_runs : {here : ℕ} {ts : List Token} {tree : Tree} → Whole here ts tree → (d : ℕ) (frames : List Frame) → floor frames ≤ here
      → depth tree + length frames ≤ d → Reads d frames here ts tree
  whole_runs (integer_rule {at = at} {value = value}) d frames low fits = at_once (free_then (token (kinds.Integer value) at) refl no_tokens)
  whole_runs (truth_rule {at = at} {value = value}) d frames low fits =
      at_once (free_then (token (truth_word value) at) (move_truth frames value at) no_tokens)
  whole_runs (name_rule place) d frames low fits = at_once (free_then (name_token place) refl no_tokens)
  whole_runs (binary_rule {at = at} {operator = o} {left = left} {right = right} below wl wr) d frames low fits =
      let levels = left_levels o in
      let rl = whole_runs wl d frames (omega arith) (omega arith) in
      let rr = whole_runs wr d (in_binary at o left ∷ frames) (omega arith) (omega arith) in
      closes_last rr (λ k h. (omega arith, reduce_binary k frames at o left right (omega arith)))
      (λ n further. infix_then at o rl (omega arith) (omega arith) further)
  whole_runs (prefix_rule {at = at} {operator = o} {operand = inner} below w) d frames low fits =
      let least : 1 ≤ depth inner = depth_pos inner in
      let r = whole_runs w d (in_prefix at o ∷ frames) (omega arith) (omega arith) in
      let next : State = operand (in_prefix at o ∷ frames) in
      closes_last r (λ k h. (omega arith, reduce_prefix k frames at o inner (omega arith)))
      (λ n further. open_then (token (prefix_sign o) at) frames
      (move_prefix frames o at ∙ at_level_fits prefix_level frames (open_move frames next) (omega arith)) (omega arith) further)
  whole_runs (call_rule {at = at} {opened = opened} closed {function = f} {arguments = arguments} w) d frames low fits =
      let least : 1 ≤ depth_of_all arguments = arguments_pos w in
      let r = arguments_run w d frames (in_call at f) (call_holds at f) (omega arith) in
      at_once (open_then (token (word f) at) frames (move_word frames f at) (omega arith)
      (free_then (token kinds.LeftParen opened) refl
      (arguments_then paren_move (λ x. after frames (call at f x)) (token kinds.RightParen closed) r (λ left last. refl) (λ front final. refl) no_tokens)))
  whole_runs (apply_rule {opened = opened} f closed {arguments = arguments} w) d frames low fits =
      let least : 1 ≤ depth_of_all arguments = arguments_pos w in
      let r = arguments_run w d frames (in_apply f) (apply_holds f) (omega arith) in
      at_once (free_then (name_token f) refl
      (open_then (token kinds.LeftParen opened) frames refl (omega arith)
      (arguments_then paren_move (λ x. after frames (apply f x)) (token kinds.RightParen closed) r (λ left last. refl) (λ front final. refl) no_tokens)))
  whole_runs (group_rule {at = at} closed {inner = inner} w) d frames low fits =
      let least : 1 ≤ depth inner = depth_pos inner in
      let r = whole_runs w d (in_group at ∷ frames) (omega arith) (omega arith) in
      at_once (open_then (token kinds.LeftParen at) frames refl (omega arith)
      (part_then paren_move (token kinds.RightParen closed) r (λ left last. refl) refl no_tokens))
  whole_runs (pair_rule {at = at} comma closed {first = first} {second = second} wf ws) d frames low fits =
      let least : 1 ≤ depth first = depth_pos first in
      let rf = whole_runs wf d (in_group at ∷ frames) (omega arith) (omega arith) in
      let rs = whole_runs ws d (in_second at first ∷ frames) (omega arith) (omega arith) in
      at_once (open_then (token kinds.LeftParen at) frames refl (omega arith)
      (part_then comma_move (token kinds.Comma comma) rf (λ left last. refl) refl
      (part_then paren_move (token kinds.RightParen closed) rs (λ left last. refl) refl no_tokens)))
  whole_runs (let_rule {at = at} place {equals = equals} within {value = value} {body = body} wv wb) d frames low fits =
      let least : 1 ≤ depth value = depth_pos value in
      let rv = whole_runs wv d (in_value at place ∷ frames) (omega arith) (omega arith) in
      let rb = whole_runs wb d (in_let_body at place value ∷ frames) (omega arith) (omega arith) in
      closes_last rb (λ k h. (h, reduce_let_body k frames at place value body h))
      (λ n further. open_then (token kinds.Let at) frames (at_level_fits 0 frames (open_move frames (let_name frames at)) low) (omega arith)
      (free_then (name_token place) refl (free_then (token kinds.Equals equals) refl
      (part_then in_move (token kinds.In within) rv (λ left last. refl) refl further))))
  whole_runs (if_rule {at = at} next last {condition = condition} {positive = positive} {negative = negative} wc wp wn) d frames low fits =
      let least : 1 ≤ depth condition = depth_pos condition in
      let rc = whole_runs wc d (in_condition at ∷ frames) (omega arith) (omega arith) in
      let rp = whole_runs wp d (in_positive at condition ∷ frames) (omega arith) (omega arith) in
      let rn = whole_runs wn d (in_negative at condition positive ∷ frames) (omega arith) (omega arith) in
      closes_last rn (λ k h. (h, reduce_negative k frames at condition positive negative h))
      (λ n further. open_then (token kinds.If at) frames (at_level_fits 0 frames (open_move frames (operand (in_condition at ∷ frames))) low) (omega arith)
      (part_then then_move (token kinds.Then next) rc (λ left last. refl) refl
      (part_then else_move (token kinds.Else last) rp (λ left last. refl) refl further)))
  whole_runs (literal_rule {at = at} closed {items = items} w) d frames low fits =
      let least : 1 ≤ depth_of_all items = arguments_pos w in
      let r = arguments_run w d frames (in_braces at) (braces_hold at) (omega arith) in
      at_once (open_then (token kinds.LeftBrace at) frames refl (omega arith)
      (arguments_then brace_move (λ x. after frames (literal at x)) (token kinds.RightBrace closed) r (λ left last. refl) (λ front final. refl) no_tokens))
  whole_runs (filter_rule {at = at} bar closed {item = item} {condition = condition} wi wc) d frames low fits =
      let least : 1 ≤ depth item = depth_pos item in
      let ri = whole_runs wi d (in_braces at none ∷ frames) (omega arith) (omega arith) in
      let rc = whole_runs wc d (in_filter at item ∷ frames) (omega arith) (omega arith) in
      at_once (open_then (token kinds.LeftBrace at) frames refl (omega arith)
      (part_then bar_move (token kinds.Bar bar) ri (λ left last. refl) refl
      (part_then brace_move (token kinds.RightBrace closed) rc (λ left last. refl) refl no_tokens)))
  whole_runs (each_rule {at = at} colon closed {body = body} {binders = binders} w wb) d frames low fits =
      let least : 1 ≤ depth body = depth_pos body in
      let r = whole_runs w d (in_braces at none ∷ frames) (omega arith) (omega arith) in
      let rb = binders_run wb d frames at body (omega arith) in
      at_once (open_then (token kinds.LeftBrace at) frames refl (omega arith)
      (part_then colon_move (token kinds.Colon colon) r (λ left last. refl) refl
      (binders_then brace_move (token kinds.RightBrace closed) rb (λ left last. refl)
      (λ front place source same. ap (λ x. at_any_depth (after frames (each at body x always))) same) no_tokens)))
  whole_runs (each_where_rule {at = at} colon bar closed {body = body} {condition = condition} {binders = binders} w wb wc) d frames low fits =
      let least : 1 ≤ depth body = depth_pos body in
      let r = whole_runs w d (in_braces at none ∷ frames) (omega arith) (omega arith) in
      let rb = binders_run wb d frames at body (omega arith) in
      let rc = whole_runs wc d (in_each_condition at body binders ∷ frames) (omega arith) (omega arith) in
      at_once (open_then (token kinds.LeftBrace at) frames refl (omega arith)
      (part_then colon_move (token kinds.Colon colon) r (λ left last. refl) refl
      (binders_then bar_move (token kinds.Bar bar) rb (λ left last. refl)
      (λ front place source same. ap (λ x. at_any_depth (operand (in_each_condition at body x ∷ frames))) same)
      (part_then brace_move (token kinds.RightBrace closed) rc (λ left last. refl) refl no_tokens))))

  -- arguments, in a frame that holds them
  pub arguments_run : {ts : List Token} {arguments : Trees} → WholeArguments ts arguments → (d : ℕ) (frames : List Frame) (frame : Trees → Frame)
      → HoldsArguments frame → suc (depth_of_all arguments + length frames) ≤ d → ReadsArguments d frames frame ts arguments
  arguments_run (one_rule {only = only} w) d frames frame holds fits =
      let r = whole_runs w d (frame none ∷ frames) (holds.any_may_stand none frames) (omega arith) in
      last_argument none r (λ n further. further)
  arguments_run (more_rule comma {arguments = arguments} {last = last} wa w) d frames frame holds fits =
      let deep : depth_of_all (added arguments last) ≡ max (depth_of_all arguments) (depth last) = depth_added arguments last in
      let ra = arguments_run wa d frames frame holds (omega arith) in
      let r = whole_runs w d (frame arguments ∷ frames) (holds.any_may_stand arguments frames) (omega arith) in
      last_argument arguments r (λ n further. arguments_then comma_move (λ x. operand (frame x ∷ frames)) (token kinds.Comma comma) ra (λ left last. refl)
      (λ front final. holds.comma_adds front frames final) further)

  -- binders, after the colon
  pub binders_run : {ts : List Token} {binders : Binders} → WholeBinders ts binders → (d : ℕ) (frames : List Frame) (at : ℕ) (body : Tree)
      → suc (depth_of_binders binders + length frames) ≤ d → ReadsBinders d frames at body ts binders
  binders_run (one_binder place within {source = source} w) d frames at body fits =
      let r = whole_runs w d (in_source at body none_bound place ∷ frames) (omega arith) (omega arith) in
      last_binder r (λ n further. named_then place within further)
  binders_run (more_binders semicolon place within {binders = binders} {source = source} wb few w) d frames at body fits =
      let deep : depth_of_binders (bound_also binders place source) ≡ max (depth_of_binders binders) (depth source) = depth_bound_also binders place source in
      let rb = binders_run wb d frames at body (omega arith) in
      let r = whole_runs w d (in_source at body binders place ∷ frames) (omega arith) (omega arith) in
      last_binder r (λ n further. binders_then semicolon_move (token kinds.Semicolon semicolon) rb (λ left last. refl)
      (semicolon_ends at frames body binders few) (named_then place within further))

-- a whole expression within the depth is read to its end
pub whole_reads : (deep : ℕ) (ts : List Token) (tree : Tree) → Whole 0 ts tree → depth tree ≤ deep
    → (state : State) × (after_tokens expressions deep expressions.start ts ≡ Ok state) × (expressions.finished state ≡ Some tree)
whole_reads deep ts tree w h =
    let r = whole_runs w deep [] (omega arith) (omega arith) in
    (after r.left r.last, r.runs.reads, ap alone (r.folds 0 (omega arith)))
