use Rattle.std.proofs.Common.{◌≡◌, ℕ, List}
use Rattle.eps_sec.specs.Aes.{add_round_key, round_key, rounds}
use Rattle.eps_sec.specs.Words.{state}
use Rattle.eps_sec.proofs.cipher.encrypt_from.Given as goal

abbrev pub invariant-loop-n : goal.invariant-loop-n
invariant-loop-n l = (block : List ℕ) → add_round_key (round_key l.schedule l.start) (state l.before)
    ≡ rounds l.schedule block l.start
    → add_round_key (round_key l.schedule l.n) (state l.state) ≡ rounds l.schedule block l.n
