-- One step of a HARQ process at the sender (TS 36.321 5.3.2, 5.4.2).
use Rattle.std.specs.Prelude.{ℕ, ◌+◌, ◌-◌, ◌%◌, ◌==◌, Bool, true, false, not, if◌then◌else◌, Option}
use Rattle.std.specs.Prelude.{Some, None, is_some, option_map, option_and_then, List, [], ◌∷◌}
use Rattle.std.specs.Prelude.{replicate, slice_index_or, slice_set}
use Rattle.harq.specs.declared.sender.Order.{Order}
use Rattle.harq.specs.declared.sender.Order.TheVariants.{Silent, Unseen, Free, Grant}
use Rattle.harq.specs.declared.sender.Visit.{Visit}
use Rattle.harq.specs.declared.sender.Visit.TheVariants.{New, Resend, Silent as Nothing}

-- a block that a process holds, the visits that it has left after this one, and its sendings modulo
-- 4
pub record Block : Type 0 where
  pub octets : List ℕ
  pub left : ℕ
  pub sent : ℕ

abbrev pub block : List ℕ → ℕ → ℕ → Block
block octets left sent = record { octets = octets; left = left; sent = sent }

-- a process of a sender: the block that it holds, and the NDI of its last block or of the last
-- grant seen
pub record SendProcess : Type 0 where
  pub held : Option Block
  pub ndi : Bool

abbrev pub send_process : Option Block → Bool → SendProcess
send_process held ndi = record { held = held; ndi = ndi }

-- the process after a reset
abbrev pub empty : SendProcess
empty = send_process None false

-- the redundancy version of a block that was sent so many times before, modulo 4: 0, 2, 3, 1
abbrev pub version_of : ℕ → ℕ
version_of sent = slice_index_or (0 ∷ 2 ∷ 3 ∷ 1 ∷ []) sent 0

-- ---- a block

-- it is sent once more, which is a visit
abbrev pub resent : Block → Block
resent b = block b.octets (b.left - 1) ((b.sent + 1) % 4)

-- it is visited and not sent
abbrev pub waited : Block → Block
waited b = block b.octets (b.left - 1) b.sent

-- what is left of it at the end of a visit: nothing after its last one
abbrev pub ended : Block → Option Block
ended b = if b.left == 0 then None else Some b

-- ---- a process

abbrev pub same : Bool → Bool → Bool
same true b = b
same false b = not b

abbrev pub waited_for : SendProcess → SendProcess
waited_for p = send_process (option_map waited p.held) p.ndi

abbrev pub sent_again : SendProcess → SendProcess
sent_again p = send_process (option_map resent p.held) p.ndi

abbrev pub spent : SendProcess → SendProcess
spent p = send_process (option_and_then ended p.held) p.ndi

-- a new downlink block toggles the NDI
abbrev pub toggled : SendProcess → SendProcess
toggled p = send_process p.held (if is_some p.held then p.ndi else not p.ndi)

-- a grant is seen: with another NDI than the last it drops the block
abbrev pub seen : Bool → SendProcess → SendProcess
seen ndi p = send_process (if same ndi p.ndi then p.held else None) ndi

-- a visit, up to the block or the feedback that follows it
abbrev pub visited : Order → SendProcess → SendProcess
visited Silent p = spent (waited_for p)
visited Unseen p = sent_again p
visited Free p = sent_again (toggled p)
visited (Grant ndi) p = sent_again (seen ndi p)

-- what is sent: the block that is held, else what else is to be done
abbrev pub resend_or : Visit → Option Block → Visit
resend_or otherwise None = otherwise
resend_or otherwise (Some b) = Resend (version_of b.sent)

abbrev pub answered : Order → SendProcess → Visit
answered Silent p = Nothing
answered Unseen p = resend_or Nothing p.held
answered Free p = resend_or New p.held
answered (Grant ndi) p = resend_or New (seen ndi p).held

-- a new block is loaded, which is the first of its visits and of its sendings
abbrev pub loaded : ℕ → List ℕ → SendProcess → SendProcess
loaded maximum octets p = send_process (Some (block octets (maximum - 1) 1)) p.ndi

-- feedback comes: a good one empties the process
abbrev pub fed : Bool → SendProcess → SendProcess
fed good p = send_process (if good then None else option_and_then ended p.held) p.ndi

-- ---- the eight processes

-- the most visits of a block, and the processes
pub record Sending : Type 0 where
  pub maximum : ℕ
  pub processes : List SendProcess

abbrev pub sending : ℕ → List SendProcess → Sending
sending maximum processes = record { maximum = maximum; processes = processes }

-- the process of a TTI
abbrev pub process_at : Sending → ℕ → SendProcess
process_at s tti = slice_index_or s.processes (tti % 8) empty

-- the process of a TTI is p, and the others stay
abbrev pub with_process : Sending → ℕ → SendProcess → Sending
with_process s tti p = sending s.maximum (slice_set s.processes (tti % 8) p)

-- after a reset
unfoldable pub fresh : ℕ → Sending
fresh maximum = sending maximum (replicate 8 empty)

unfoldable pub after_visit : Sending → ℕ → Order → Sending
after_visit s tti order = with_process s tti (visited order (process_at s tti))

unfoldable pub visit_answer : Sending → ℕ → Order → Visit
visit_answer s tti order = answered order (process_at s tti)

unfoldable pub after_load : Sending → ℕ → List ℕ → Sending
after_load s tti octets = with_process s tti (loaded s.maximum octets (process_at s tti))

unfoldable pub after_feedback : Sending → ℕ → Bool → Sending
after_feedback s tti good = with_process s tti (fed good (process_at s tti))

unfoldable pub ndi_of : Sending → ℕ → Bool
ndi_of s tti = (process_at s tti).ndi

-- the octets that a process holds
unfoldable pub held_of : Sending → ℕ → Option (List ℕ)
held_of s p = option_map (λ b. b.octets) (slice_index_or s.processes p empty).held
