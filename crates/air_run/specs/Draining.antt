-- A drain (docs/formats/SCRIPT.md): TTIs with the same grants until nothing is left of what
-- acknowledged bearers have to bring over.
use Rattle.std.specs.Prelude.{ℕ, ◌+◌, ◌-◌, ◌*◌, ◌^◌, zero, suc, min, Bool, true, false, List, []}
use Rattle.std.specs.Prelude.{◌∷◌, ◌++◌}
use Rattle.air_link.specs.Draining.{drain_tti, carried, receivers_expire, senders_expire}
use Rattle.air_link.specs.Draining.{is_drained, left, count}
use Rattle.air_link.specs.Link.{Link}
use Rattle.air_record.specs.declared.record.Record.{Record}
use Rattle.air_record.specs.declared.record.Record.TheVariants as records

-- the records of a line are written
abbrev pub shown : Link → Link
shown l = record l { out = [] }

-- what a part of a drain leaves: both ends, the rounds that it did, and its records
pub record Drained : Type 0 where
  pub link : Link
  pub done : ℕ
  pub journal : List Record

abbrev pub at_once : Link → Drained
at_once l = record { link = l; done = 0; journal = [] }

-- a part of it, and what comes behind
abbrev pub behind : List Record → ℕ → Drained → Drained
behind part done d = record { link = d.link; done = done + d.done; journal = part ++ d.journal }

-- ---- TTIs alone

abbrev pub ttis : ℕ → ℕ → Link → Drained
ttis zero grant l = at_once l
ttis (suc n) grant l = behind (drain_tti grant l).out 0 (ttis n grant (shown (drain_tti grant l)))

-- ---- rounds

-- t-PollRetransmit expires only where the TTI carried nothing of an acknowledged bearer
abbrev pub senders_unless : Bool → Link → Link
senders_unless true l = l
senders_unless false l = senders_expire l

-- a TTI, and the timers that run behind it
abbrev pub round : ℕ → Link → Link
round grant l = senders_unless (carried (drain_tti grant l)) (receivers_expire (drain_tti grant l))

-- where both ends are drained nothing more is done
abbrev pub left_by : Bool → ℕ → Link → Link
left_by true grant l = l
left_by false grant l = shown (round grant l)

abbrev pub done_by : Bool → ℕ
done_by true = 0
done_by false = 1

abbrev pub round_told : Bool → ℕ → Link → List Record
round_told true grant l = []
round_told false grant l = (round grant l).out

-- at most so many rounds, as few as it takes
abbrev pub rounds : ℕ → ℕ → Link → Drained
rounds zero grant l = at_once l
rounds (suc n) grant l =
    behind (round_told (is_drained l) grant l) (done_by (is_drained l))
    (rounds n grant (left_by (is_drained l) grant l))

-- ---- the whole

-- the rounds that a drain may take, by the octets that it has to bring over as it begins and by the
-- bearers
abbrev pub budget : Link → ℕ
budget l = min (1024 * (left l + (512 * count l + 64))) (2 ^ 64 - 1)

abbrev pub ended : Drained → Drained
ended d = record d { journal = d.journal ++ records.Drained d.done ∷ [] }

-- eight TTIs, then rounds
unfoldable pub drained : ℕ → Link → Drained
drained grant l =
    ended (behind (ttis 8 grant l).journal 0 (rounds (budget l) grant (ttis 8 grant l).link))
