-- The public calls as functions of their arguments. Every claim of this crate speaks of such functions, whatever they are; `library` are those of the
-- definitions, and the tie (Tied.antt) says that they are what the calls' contracts tell. So nothing has to be believed about which definition a contract cites.
-- Assumes nothing.
use Rattle.std.specs.Prelude.{List, ℕ}
use Rattle.refusal.specs.Refusal.{Filled}
use Rattle.state.specs.Sizes.{width}
use Rattle.state.specs.Calls.{Calls, calls}
use Rattle.entries.specs.Tag.{tag}
use Rattle.sha256.specs.Sha256.{digest_of}
use Rattle.hmac.specs.Hmac.{mac_of}
use Rattle.filter.specs.Filter.{Unpacked, pack_of, unpack_of}
use Rattle.filter.specs.declared.FilterRecord.{FilterRecord}
use Rattle.going.specs.Going.{going_of}
use Rattle.going.specs.declared.Going.{Going}
use Rattle.session.specs.Session.{session_of}

pub record Library : Type 0 where
  -- start, add, load, store, remove, check, look, count and lowest free
  pub store : Calls
  -- of a message and the buffer lent; of a key, a message and the buffer lent
  pub digest : List ℕ → List ℕ → Filled
  pub mac : List ℕ → List ℕ → List ℕ → Filled
  -- of a filter record and the buffer lent; of bytes; of the one held and the one offered
  pub pack : FilterRecord → List ℕ → Filled
  pub unpack : List ℕ → Unpacked
  pub compare : FilterRecord → FilterRecord → Going
  -- what the bench prints for an input
  pub bench : List ℕ → List ℕ

abbrev pub library : Library
library = record { store = calls width tag; digest = digest_of; mac = mac_of; pack = pack_of; unpack = unpack_of; compare = going_of; bench = session_of }
