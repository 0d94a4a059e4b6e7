-- What is gathered for a vector.
use Rattle.std.specs.Prelude.{List, [], map, ℤ}
use Rattle.snesl_data.specs.declared.numbers.Numbers.{Numbers}
use Rattle.snesl_data.specs.declared.numbers.Numbers.TheVariants.{Small, Wide}
use Rattle.snesl_data.specs.declared.builder.Builder.{Builder}
use Rattle.snesl_data.specs.declared.builder.Builder.TheVariants.{Empty, Numbers as NumbersBuilder, Truths, Others}
use Rattle.snesl_data.specs.Values.{Value, an_int, a_bool, value_of}

-- the integers, in order
abbrev pub numbers_in : Numbers → List ℤ
numbers_in (Small all) = all.items
numbers_in (Wide all) = all.items

-- the elements, in order
abbrev pub built_in : Builder → List Value
built_in Empty = []
built_in (NumbersBuilder numbers) = map an_int (numbers_in numbers)
built_in (Truths all) = map a_bool all.items
built_in (Others all) = map value_of all.items
