-- What a queue means: the tokens in the places that it uses.
use Rattle.std.specs.Prelude.{ℕ, List, take}
use Rattle.queue.specs.declared.queues.Queue.{Queue}

abbrev pub tokens : {T : Type 0} {n : ℕ} → Queue T n → List T
tokens q = take q.used q.places
