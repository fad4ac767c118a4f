-- Rounds on random words.
use Rattle.std.proofs.Common.{◌≡◌, ℕ, zero, suc, ◌+◌, ◌*◌, ◌≤◌, List, ◌++◌, length, take as front, drop}
use Rattle.std.proofs.Common.{arith, add-one}
use Rattle.std.proofs.lemmas.List.{take_all, take-append-le, drop-append-le, length-drop, nil_from_length}
use Rattle.rand_core.specs.Stream.{Stream}
use Rattle.pfs_base.specs.FlowShop.{FlowShop}
use Rattle.pfs_search.specs.Greedy.{words_of, stream_after, after_round, after_rounds}
use Rattle.pfs_search.proofs.Published.Words.{length-words_of, words_of-add, stream_after-add}

-- one more round, on the random words after those of the rounds before
module _ (shop : FlowShop) (passes take : ℕ) where
  rounds_suc : (n : ℕ) (jobs ws us : List ℕ) → length ws ≡ n * take → length us ≡ take
      → after_rounds shop passes (suc n) take jobs (ws ++ us)
      ≡ after_round shop passes (after_rounds shop passes n take jobs ws) us
  rounds_suc zero jobs ws us long one = rw (nil_from_length ws (omega arith), take_all take us (omega arith))
  rounds_suc (suc n) jobs ws us long one =
      let fits : take ≤ length ws = omega arith in
      rw (take-append-le take ws us fits, drop-append-le take ws us fits)
      (rounds_suc n (after_round shop passes jobs (front take ws)) (drop take ws) us
      (omega (arith, length-drop take ws)) one)

  pub rounds_more : (n : ℕ) (jobs : List ℕ) (s : Stream) → let later = stream_after (n * take) s in
      after_rounds shop passes (n + 1) take jobs (words_of ((n + 1) * take) s)
      ≡ after_round shop passes (after_rounds shop passes n take jobs (words_of (n * take) s)) (words_of take later)
  rounds_more n jobs s =
      let count : (n + 1) * take ≡ n * take + take = omega arith in
      rw (count, words_of-add (n * take) take s, add-one) (rounds_suc n jobs _ _ (length-words_of (n * take) s)
      (length-words_of take (stream_after (n * take) s)))

pub stream_group : (n take : ℕ) (s : Stream)
    → stream_after ((n + 1) * take) s ≡ stream_after take (stream_after (n * take) s)
stream_group n take s =
    let count : (n + 1) * take ≡ n * take + take = omega arith in rw count (stream_after-add (n * take) take s)
