-- What threads were given.
use Rattle.std.specs.Prelude.{List, map}
use Rattle.std.specs.declared.thread.PromisedHandle.{PromisedHandle}
use Rattle.flow_messages.specs.declared.ends.Ends.{Ghosts as EndsGhosts}
use Rattle.flow_base.specs.declared.transducer.Transducer.{Ghosts}
use Rattle.flow_shares.specs.declared.share.Share.{Share}
use Rattle.flow_shares.specs.declared.threads.Pumped.{Pumped}

-- the shares that these threads were given, in order
abbrev pub shares_given : {X Y : Type 0} {t : Ghosts X} {u : EndsGhosts Y} → List (PromisedHandle (Share X Y t u) (Pumped X Y t u)) → List (Share X Y t u)
shares_given threads = map (λ thread. thread.promise.given.value) threads
