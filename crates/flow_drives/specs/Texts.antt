-- The text that the nodes of a network printed.
use Rattle.std.specs.Prelude.{◌≡◌, ℕ, List, [], Option, None}
use Rattle.std.specs.Option.{unwrap_or}
use Rattle.std.specs.List.{filter_map, last_or}

-- the text of the last of these states that has one, and no text where none has one
abbrev pub last_text : {S : Type 0} → (S → Option (List ℕ)) → List S → List ℕ
last_text text_in states = unwrap_or (last_or None (filter_map text_in states)) []

-- what a node has printed is what `text_in` gives of its state
abbrev pub IsTold : {Node S : Type 0} → (Node → S) → (Node → Option (List ℕ)) → (S → Option (List ℕ)) → Type 0
IsTold {Node} state printed text_in = (node : Node) → printed node ≡ text_in (state node)

-- the text is that of the last state that has one, and none where none has one, by what the nodes have printed
abbrev pub IsLastText : {Node S : Type 0} → (Node → S) → (Node → Option (List ℕ)) → List S → List ℕ → Type 0
IsLastText {Node} {S} state printed states text = (text_in : S → Option (List ℕ)) → IsTold state printed text_in → text ≡ last_text text_in states
