use Rattle.flow_part_tests.proofs.pairs.second_and_first.Goals as goal

pub returns : goal.returns
returns c = λ s d l. (c.in_ok-dealt.ensures.new.each s d l).starved
