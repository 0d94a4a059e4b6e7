-- The worked rows of the language.
use Rattle.std.specs.Prelude.{List, [], ◌∷◌, negsuc}
use Rattle.snesl_data.specs.Values.{an_int, a_pair}
use Rattle.snesl_data.specs.declared.fault.FaultKind.TheVariants as fault
use Rattle.snesl_data.specs.declared.refusal.Refusal.TheVariants as refusal
use Rattle.snesl_meaning.specs.Meaning.{is_refused, has_value, has_fault}
use Rattle.snesl_meaning.specs.worked.Rows.{Row, ◌means◌, ◌on◌means◌, number, numbers, sequence}

-- programs that have a value
abbrev pub values : List Row
values =
    ("reduce_add(iota(5))" means has_value (number 10)) ∷
    ("{reduce_add({x + y : y in iota(x)}) : x in iota(4)}" means has_value (numbers (0 ∷ 1 ∷ 5 ∷ 12 ∷ []))) ∷
    ("scan_add({2,1,3})" means has_value (numbers (0 ∷ 2 ∷ 3 ∷ []))) ∷
    ("part({3,1,4,1,5,9}, {false,false,true,false,true,true,false,false,false,true})" means
    has_value (sequence (numbers (3 ∷ 1 ∷ []) ∷ numbers (4 ∷ []) ∷ numbers [] ∷ numbers (1 ∷ 5 ∷ 9 ∷ []) ∷ []))) ∷
    ("let v = tab(iota(3)) in {reduce_add(seq(v)) : x in iota(2)}" means has_value (numbers (3 ∷ 3 ∷ []))) ∷
    ("{1/0 : x in iota(0)}" means has_value (numbers [])) ∷
    ("{if x < 2 then x else 0 - x : x in iota(4)}" means
    has_value (sequence (number 0 ∷ number 1 ∷ an_int (negsuc 1) ∷ an_int (negsuc 2) ∷ []))) ∷
    ("((0 - 7) / 2, (0 - 7) % 2)" means has_value (a_pair (an_int (negsuc 2)) (an_int (negsuc 0)))) ∷
    ("{scan_add(s) : s in {{1,2},{0 | false},{3,4,5}}}" means
    has_value (sequence (numbers (0 ∷ 1 ∷ []) ∷ numbers [] ∷ numbers (0 ∷ 3 ∷ 7 ∷ []) ∷ []))) ∷
    ("scan_add({9223372036854775807, 1})" means has_value (numbers (0 ∷ 9223372036854775807 ∷ []))) ∷
    ("concat({{1,2},{0 | false},{3}})" means has_value (numbers (1 ∷ 2 ∷ 3 ∷ []))) ∷
    ("{x * x : x in iota(6) | x % 2 == 0}" means has_value (numbers (0 ∷ 4 ∷ 16 ∷ []))) ∷
    ("let s = iota(3) in if true then s else {9}" means has_value (numbers (0 ∷ 1 ∷ 2 ∷ []))) ∷
    ("function sq(x : int) : int = x * x; {sq(x) : x in {3,4}}" means has_value (numbers (9 ∷ 16 ∷ []))) ∷
    ("(((((((((((((((((((((((((((((((((((((((((((((((((((((((((((((((1)))))))))))))))))))))))))))))))))))))))))))))))))))))))))))))))" means
    has_value (number 1)) ∷
    []

-- programs that end in a fault, each with the offset of the form
abbrev pub faults : List Row
faults =
    ("let u = 1/0 in 7" means has_fault fault.Divide 9) ∷
    ("{100 / x : x in {5,0,2}}" means has_fault fault.Divide 5) ∷
    ("{a + b : a in {1,2}; b in {1}}" means has_fault fault.Length 0) ∷
    ("1 + the({1,2})" means has_fault fault.The 4) ∷
    ("part({1}, {false})" means has_fault fault.Part 0) ∷
    ("9223372036854775807 + 1" means has_fault fault.Overflow 20) ∷
    ("tab({7,8}) ! 2" means has_fault fault.Index 11) ∷
    ("reduce_max({0 | false})" means has_fault fault.EmptyMax 0) ∷
    ("iota(0 - 1)" means has_fault fault.NegativeCount 0) ∷
    []

-- texts that are refused, each with the offset where it has one
abbrev pub refusals : List Row
refusals =
    ("let s = iota(3) in {reduce_add(s) : x in iota(2)}" means is_refused (refusal.Streamed 31)) ∷
    ("{1, 2" means is_refused (refusal.Syntax 5)) ∷
    ("let a=(1,1) in let b=(a,a) in let c=(b,b) in let d=(c,c) in let e=(d,d) in let f=(e,e) in let g=(f,f) in (g,g)" means
    is_refused refusal.TooBig) ∷
    ("" means is_refused (refusal.Syntax 0)) ∷
    ("1 # 2" means is_refused (refusal.Lex 2)) ∷
    ("((((((((((((((((((((((((((((((((((((((((((((((((((((((((((((((((1))))))))))))))))))))))))))))))))))))))))))))))))))))))))))))))))" means
    is_refused refusal.Deep) ∷
    ("{y : x in iota(2)}" means is_refused (refusal.Name 1)) ∷
    ("input x : int; input x : bool; x" means is_refused (refusal.Name 21)) ∷
    ("1 + true" means is_refused (refusal.Mismatch 2)) ∷
    ("input v : [{int}]; 1" means is_refused (refusal.Streamed 10)) ∷
    []

-- the same programs in the second dialect, in which 9223372036854775807 + 1 has a value: offsets are 11 greater
abbrev pub in_second : List Row
in_second =
    ("dialect 2; 9223372036854775807 + 1" means has_value (number 9223372036854775808)) ∷
    ("dialect 2; reduce_add(iota(5))" means has_value (number 10)) ∷
    ("dialect 2; {reduce_add({x + y : y in iota(x)}) : x in iota(4)}" means has_value (numbers (0 ∷ 1 ∷ 5 ∷ 12 ∷ []))) ∷
    ("dialect 2; scan_add({2,1,3})" means has_value (numbers (0 ∷ 2 ∷ 3 ∷ []))) ∷
    ("dialect 2; part({3,1,4,1,5,9}, {false,false,true,false,true,true,false,false,false,true})" means
    has_value (sequence (numbers (3 ∷ 1 ∷ []) ∷ numbers (4 ∷ []) ∷ numbers [] ∷ numbers (1 ∷ 5 ∷ 9 ∷ []) ∷ []))) ∷
    ("dialect 2; let v = tab(iota(3)) in {reduce_add(seq(v)) : x in iota(2)}" means has_value (numbers (3 ∷ 3 ∷ []))) ∷
    ("dialect 2; {1/0 : x in iota(0)}" means has_value (numbers [])) ∷
    ("dialect 2; {if x < 2 then x else 0 - x : x in iota(4)}" means
    has_value (sequence (number 0 ∷ number 1 ∷ an_int (negsuc 1) ∷ an_int (negsuc 2) ∷ []))) ∷
    ("dialect 2; ((0 - 7) / 2, (0 - 7) % 2)" means has_value (a_pair (an_int (negsuc 2)) (an_int (negsuc 0)))) ∷
    ("dialect 2; {scan_add(s) : s in {{1,2},{0 | false},{3,4,5}}}" means
    has_value (sequence (numbers (0 ∷ 1 ∷ []) ∷ numbers [] ∷ numbers (0 ∷ 3 ∷ 7 ∷ []) ∷ []))) ∷
    ("dialect 2; scan_add({9223372036854775807, 1})" means has_value (numbers (0 ∷ 9223372036854775807 ∷ []))) ∷
    ("dialect 2; concat({{1,2},{0 | false},{3}})" means has_value (numbers (1 ∷ 2 ∷ 3 ∷ []))) ∷
    ("dialect 2; {x * x : x in iota(6) | x % 2 == 0}" means has_value (numbers (0 ∷ 4 ∷ 16 ∷ []))) ∷
    ("dialect 2; let s = iota(3) in if true then s else {9}" means has_value (numbers (0 ∷ 1 ∷ 2 ∷ []))) ∷
    ("dialect 2; function sq(x : int) : int = x * x; {sq(x) : x in {3,4}}" means has_value (numbers (9 ∷ 16 ∷ []))) ∷
    ("dialect 2; (((((((((((((((((((((((((((((((((((((((((((((((((((((((((((((((1)))))))))))))))))))))))))))))))))))))))))))))))))))))))))))))))" means
    has_value (number 1)) ∷
    ("dialect 2; let u = 1/0 in 7" means has_fault fault.Divide 20) ∷
    ("dialect 2; {100 / x : x in {5,0,2}}" means has_fault fault.Divide 16) ∷
    ("dialect 2; {a + b : a in {1,2}; b in {1}}" means has_fault fault.Length 11) ∷
    ("dialect 2; 1 + the({1,2})" means has_fault fault.The 15) ∷
    ("dialect 2; part({1}, {false})" means has_fault fault.Part 11) ∷
    ("dialect 2; tab({7,8}) ! 2" means has_fault fault.Index 22) ∷
    ("dialect 2; reduce_max({0 | false})" means has_fault fault.EmptyMax 11) ∷
    ("dialect 2; iota(0 - 1)" means has_fault fault.NegativeCount 11) ∷
    ("dialect 2; let s = iota(3) in {reduce_add(s) : x in iota(2)}" means is_refused (refusal.Streamed 42)) ∷
    ("dialect 2; {1, 2" means is_refused (refusal.Syntax 16)) ∷
    ("dialect 2; let a=(1,1) in let b=(a,a) in let c=(b,b) in let d=(c,c) in let e=(d,d) in let f=(e,e) in let g=(f,f) in (g,g)" means
    is_refused refusal.TooBig) ∷
    ("dialect 2; 1 # 2" means is_refused (refusal.Lex 13)) ∷
    ("dialect 2; ((((((((((((((((((((((((((((((((((((((((((((((((((((((((((((((((1))))))))))))))))))))))))))))))))))))))))))))))))))))))))))))))))" means
    is_refused refusal.Deep) ∷
    ("dialect 2; {y : x in iota(2)}" means is_refused (refusal.Name 12)) ∷
    ("dialect 2; input x : int; input x : bool; x" means is_refused (refusal.Name 32)) ∷
    ("dialect 2; 1 + true" means is_refused (refusal.Mismatch 13)) ∷
    ("dialect 2; input v : [{int}]; 1" means is_refused (refusal.Streamed 21)) ∷
    []

-- programs with an input text, which is refused at an offset of its own
abbrev pub with_inputs : List Row
with_inputs =
    ("input xs : {{int}}; {length(x) : x in xs}" on "xs = {{},{1,2,3},{4}}" means has_value (numbers (0 ∷ 3 ∷ 1 ∷ []))) ∷
    ("input s : {int}; scan_add(s)" on "s = {2,1,3}" means has_value (numbers (0 ∷ 2 ∷ 3 ∷ []))) ∷
    ("input s : {int}; scan_add(s)" on "s = {9223372036854775807,1,1}" means has_fault fault.Overflow 17) ∷
    ("input v : [int]; v ! 2" on "v = [7,8]" means has_fault fault.Index 19) ∷
    ("input n : int; iota(n)" on "n = 9223372036854775808" means is_refused (refusal.BadInput 4)) ∷
    ("input xs : {{int}}; {length(x) : x in xs}" on "xs = {{}" means is_refused (refusal.BadInput 8)) ∷
    []
