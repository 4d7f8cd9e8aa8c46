-- 01, "The multiset hash": the tag of an entry.
-- Assumes nothing.
use Rattle.std.specs.Prelude.{List, ℕ}
use Rattle.hmac.specs.Hmac.{hmac}
use Rattle.state.specs.Sizes.{width}
use Rattle.state.specs.Cells.{Entry}
use Rattle.state.specs.Multiset.{message}
use Rattle.state.specs.declared.Seal.{Seal}

-- the tag of an entry under a seal, at a stamp's width
unfoldable pub tag_of : ℕ → Seal → Entry → List ℕ
tag_of w seal e = hmac seal.key (message w e)

-- at today's width
abbrev pub tag : Seal → Entry → List ℕ
tag = tag_of width
