-- A UMD PDU has an octet, and fits where its header and its field do.
use Rattle.std.proofs.Common.{ℕ, ◌+◌, ◌≤◌, Bool, true, false, if◌then◌else◌, ◌==◌, List, length, arith}
use Rattle.rlc_pdu.specs.Pdus.{AreLens}
use Rattle.rlc_pdu.specs.Writing.{umd_written, header_len}
use Rattle.rlc_pdu.proofs.Again.{sizes}
use Rattle.rlc_um.specs.Sender.{head_of}

header-some : (b : Bool) → 1 ≤ (if b then 1 else 2)
header-some true = omega arith
header-some false = omega arith

pub umd_some : (bits sn fi : ℕ) (lens field : List ℕ) → AreLens lens → 1 ≤ length (umd_written bits sn fi lens field)
umd_some bits sn fi lens field h =
    let len = (sizes lens field h).umd bits sn fi in
    let some = header-some (bits == 5) in
    omega arith

pub umd_within : (bits sn fi size : ℕ) (lens field : List ℕ) → AreLens lens
    → header_len (head_of bits) (length lens) + length field ≤ size
    → length (umd_written bits sn fi lens field) ≤ size
umd_within bits sn fi size lens field h fits = let len = (sizes lens field h).umd bits sn fi in omega arith

pub ruleset umd = (umd_some, umd_within)
