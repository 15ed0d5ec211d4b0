-- The number of each refusal and what it means, and how the refusals of a call are ordered.
use Rattle.std.specs.Prelude.{◌≡◌, ◌≢◌, ℕ, Bool, cond, ◌&&◌, List, [], ◌∷◌, Some, None, Option, Result, MatchResult, nat_le, codes}
use Rattle.service.specs.declared.refusals.Refusal.{Refusal}
use Rattle.service.specs.declared.refusals.UnknownRefusal.{UnknownRefusal}
use Rattle.service.specs.declared.refusals.Refusal.TheVariants.{UnknownTool, WrongState, UnknownItem, TooManyEntries, TickTooLarge, CounterSpent, NoEntry, HasToken, VersionChanged, BehindWrite, WriteBetween, BehindRead, ReadStands, NotCertified, NoToken}

abbrev pub number : Refusal → ℕ
number UnknownTool = 1
number WrongState = 2
number UnknownItem = 3
number TooManyEntries = 4
number TickTooLarge = 5
number CounterSpent = 6
number NoEntry = 7
number HasToken = 8
number VersionChanged = 9
number BehindWrite = 10
number WriteBetween = 11
number BehindRead = 12
number ReadStands = 13
number NotCertified = 14
number NoToken = 15

-- the refusal with that number, or the number again where no refusal has it
abbrev pub Numbered : ℕ → Result Refusal UnknownRefusal → Type 0
Numbered n r = MatchResult r (λ x. number x ≡ n) (λ e. (e.0 ≡ n) × ((x : Refusal) → number x ≢ n))

-- what a program prints of it
abbrev pub meaning : Refusal → List ℕ
meaning UnknownTool = codes "no such tool"
meaning WrongState = codes "the tool's state does not allow it"
meaning UnknownItem = codes "no such item"
meaning TooManyEntries = codes "a ninth item in one transaction"
meaning TickTooLarge = codes "the tick is too large"
meaning CounterSpent = codes "the counters are spent"
meaning NoEntry = codes "the transaction does not use the item"
meaning HasToken = codes "the item is certified already"
meaning VersionChanged = codes "another version was read"
meaning BehindWrite = codes "a later write is in the store"
meaning WriteBetween = codes "a certified write lies between"
meaning BehindRead = codes "a later read was settled"
meaning ReadStands = codes "a later read is certified"
meaning NotCertified = codes "an item is not certified"
meaning NoToken = codes "the item has no token to settle"

-- a rejected certification: its tool has failed
abbrev pub rejects : Refusal → Bool
rejects r = nat_le 9 (number r) && nat_le (number r) 13

-- the tests of a call in their order: the first that is true refuses
abbrev pub Rules : Type 0
Rules = List (Bool × Refusal)

abbrev pub refusal : Rules → Option Refusal
refusal [] = None
refusal (r ∷ rs) = cond r.0 (Some r.1) (refusal rs)
