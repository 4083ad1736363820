-- the entries so far are the claims so far, all true, and there is room for the others
use Rattle.std.proofs.Common.{◌≡◌, ◌≤◌, length, take, All, vec_len, vec_capacity}
use Rattle.oth_book.specs.True.{IsTrueClaim}
use Rattle.oth_book.proofs.verifying.verified.Given as goal

abbrev pub invariant-loop-claim : goal.invariant-loop-claim
invariant-loop-claim g l = record {
  same : l.entries.items ≡ take l.claim-index l.claims;
  each : All (IsTrueClaim l.scoring) l.entries.items;
  len : vec_len l.entries ≡ l.claim-index;
  callable : goal.F-IsAlwaysCallable g l.known;
  room : length l.claims ≤ vec_capacity l.entries;
}
