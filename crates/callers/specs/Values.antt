-- What an input text says of a name.
use Rattle.std.specs.Prelude.{◌≡◌, ◌⊎◌, ℕ, List, Option, option_map, Vec}
use Rattle.std.specs.Global.{Global}
use Rattle.snesl_values.specs.Dialect.TheVariants.{One}
use Rattle.snesl_values.specs.declared.inputs.InputError.{InputError}
use Rattle.snesl_values.specs.declared.inputs.InputError.TheVariants.{Bad, NoMemory}
use Rattle.snesl_values.specs.Inputs.{InputDeclaration, Environment, InputMeans, spells, refused_at, value_in}
use Rattle.snesl_values.specs.Text.{text}

-- the bytes are the text of the value that the input text gives to the name; there are none where it gives it none
abbrev pub TellsValue : List InputDeclaration → List ℕ → List ℕ → Option (Vec ℕ Global) → Type 0
TellsValue decls input name bytes =
    (environment : Environment) × InputMeans One decls input (spells environment)
    × (option_map (λ all. all.items) bytes ≡ option_map text (value_in name environment))

-- the input text is refused at the byte that the error names, or memory was refused
abbrev pub IsRefusedAs : List InputDeclaration → List ℕ → InputError → Type 0
IsRefusedAs decls input error =
    (error ≡ NoMemory) ⊎ ((at : ℕ) × (error ≡ Bad at) × InputMeans One decls input (refused_at at))
