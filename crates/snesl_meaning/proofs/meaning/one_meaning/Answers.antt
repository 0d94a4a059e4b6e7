use Rattle.snesl_meaning.proofs.Giving.{are_given, one_given}
use Rattle.snesl_meaning.proofs.Meanings.{one_meaning}
use Rattle.snesl_meaning.proofs.NotOfMemory.{never_of_memory}
use Rattle.snesl_meaning.proofs.SomeMeaning.{some_meaning}
use Rattle.snesl_meaning.proofs.meaning.one_meaning.Goals as goal

pub returns : goal.returns
returns c = record {
  one = one_meaning c.one_answer.ensures.one c.one_input_meaning.ensures.one;
  some = some_meaning c.one_answer.ensures.some c.one_input_meaning.ensures.some;
  memory = never_of_memory;
  given = are_given;
  answer = one_given c.one_input_meaning.ensures.one;
}
