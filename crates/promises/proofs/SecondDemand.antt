-- Each clause is proved where its definitions stand. Assumes nothing.
use mathlib.Core.Path.{◌≡◌, refl}
use mathlib.Core.List.{List}
use Prim.Native.Nat.{ℕ, ◌≤◌}
use lib.ListN.{length}
use borrow.Author.Tests.{eq-eqb, le-ltb}
use Rattle.refusal.specs.Refusal.{filled}
use Rattle.constants.proofs.Rule.{k_rule, h0_rule}
use Rattle.sha256.specs.Sha256.{sha256, digest_of}
use Rattle.hmac.specs.Hmac.{hmac, mac_of}
use Rattle.state.specs.Sizes.{value_size}
use Rattle.state.specs.Multiset.{message}
use Rattle.state.specs.Start.{sealed}
use Rattle.state.proofs.Multiset.{same_counts}
use Rattle.state.proofs.Messages.{message_injective}
use Rattle.state.proofs.Joins.{hash_joined}
use Rattle.state.proofs.Effects.{effects}
use Rattle.entries.specs.Tag.{tag_of, tag}
use Rattle.filter.proofs.Trips.{one_to_one}
use Rattle.serials.proofs.Distances.{rfc1982}
use Rattle.going.proofs.Compares.{compares}
use Rattle.run.proofs.Exact.{one_period, state_exact, check_exact, reason_exact}
use Rattle.run.proofs.First.{first_address, stamp_below}
use Rattle.run.proofs.Counted.{puts_counted, numbers_agree}
use Rattle.promises.specs.Library.{library}
use Rattle.promises.specs.SecondDemand.{SecondDemand}
use Rattle.promises.proofs.Filters.{zeros_lawful}

digests : (m out : List ℕ) → length m ≤ 8192 → length out ≡ 32 → digest_of m out ≡ filled 0 (sha256 m)
unfolding digest_of
digests m out h e = simp (le-ltb 8192 (length m) h, eq-eqb (length out) 32 e)

macs : (k m out : List ℕ) → length k ≤ 1024 → length m ≤ 4096 → length out ≡ 32 → mac_of k m out ≡ filled 0 (hmac k m)
unfolding mac_of
macs k m out g h e = simp (le-ltb 1024 (length k) g, le-ltb 4096 (length m) h, eq-eqb (length out) 32 e)

pub second_demand : SecondDemand tag library
unfolding message sealed tag_of value_size
second_demand = record {
  digest = digests;
  round_constants = k_rule;
  starting_words = h0_rule;
  mac = macs;
  tags = λ seal e. refl;
  one_entry = λ d e f g. message_injective 2 d e f g;
  hashes = λ seal es. hash_joined (tag seal) es;
  same_hash = λ seal. same_counts (tag seal);
  effects = effects 2 tag;
  check_exactly = check_exact 2 tag;
  reason_exactly = reason_exact 2 tag;
  stamp_below = stamp_below 2 tag;
  first_address = first_address 2 tag;
  state_exactly = state_exact 2 tag;
  one_period = one_period;
  puts_counted = puts_counted 2 tag;
  numbers_agree = numbers_agree 2 tag;
  filters = one_to_one;
  zeros_lawful = zeros_lawful;
  serials = rfc1982;
  comparison = compares;
}
