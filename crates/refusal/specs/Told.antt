-- 01, "Numbers given back": the number of each refusal, and the number that an answer tells.
-- Assumes nothing.
use Rattle.std.specs.Prelude.{ℕ, Result, Ok, Err}
use Rattle.refusal.specs.declared.Refusal.{Refusal}
use Rattle.refusal.specs.declared.Refusal.TheVariants.{StoreSize, Address, BufferSize, InUse, NotInUse, Ceiling, Closed, KeySize, NoneFree, Bound, RecordSize, SpareBit, Lengths, PastLength, NoMember}

abbrev pub number_of : Refusal → ℕ
number_of StoreSize = 1
number_of Address = 2
number_of BufferSize = 3
number_of InUse = 4
number_of NotInUse = 5
number_of Ceiling = 6
number_of Closed = 7
number_of KeySize = 8
number_of NoneFree = 9
number_of Bound = 10
number_of RecordSize = 11
number_of SpareBit = 12
number_of Lengths = 13
number_of PastLength = 14
number_of NoMember = 15

-- 0 where the call is done
abbrev pub told : {A : Type 0} → Result A Refusal → ℕ
told (Ok x) = 0
told (Err r) = number_of r
