-- What the HARQ processes at both ends of a direction would do in a TTI, against what is told of it
-- (TS 36.321 5.3.2, 5.4.2).
use Rattle.std.specs.Prelude.{ℕ, List, [], ◌%◌, ◌==◌, Bool, true, false, not, ◌&&◌, ◌||◌, Option}
use Rattle.std.specs.Prelude.{Some, None, unwrap_or, if◌then◌else◌}
use Rattle.std.specs.Str.{bytes_eq}
use Rattle.air_record.specs.declared.line.Fate.{Fate}
use Rattle.air_record.specs.declared.line.Fate.TheVariants.{Ok, Bad, Miss}
use Rattle.air_record.specs.declared.line.Outcome.{Outcome}
use Rattle.air_record.specs.declared.record.Arrived.{Arrived}
use Rattle.air_record.specs.declared.record.Arrived.TheVariants as arriveds
use Rattle.air_record.specs.Outcomes.{turned as heard_through}
use Rattle.harq.specs.declared.sender.Order.{Order}
use Rattle.harq.specs.declared.sender.Order.TheVariants.{Silent, Unseen, Free, Grant}
use Rattle.harq.specs.declared.sender.Visit.{Visit}
use Rattle.harq.specs.declared.sender.Visit.TheVariants as visits
use Rattle.harq.specs.declared.receiver.Answer.{Answer}
use Rattle.harq.specs.declared.receiver.Answer.TheVariants as answers
use Rattle.harq.specs.Sending.{Sending, fresh as fresh_sending, after_visit, visit_answer, held_of}
use Rattle.harq.specs.Sending.{ndi_of, same}
use Rattle.harq.specs.Receiving.{Receiving, fresh as fresh_receiving, after_assigned}
use Rattle.harq.specs.Receiving.{assigned_answer, after_grant, grant_ndi, after_granted, after_pass}
use Rattle.harq.specs.SendHistory.{Turn, turned}
use Rattle.harq.specs.ReceiveHistory.{is_intact}
use Rattle.promises.specs.Flights.{feedback}
use Rattle.promises.specs.Awards.{grant_brought}
use Rattle.promises.specs.Heard.{is_miss}
use Rattle.promises.specs.Records.{is_got}
use Rattle.journal_air.specs.Told.{BlockTold, AirTold}

-- the sender and the receiver of a direction
pub record BothEnds : Type 0 where
  pub sender : Sending
  pub receiver : Receiving

-- after a reset
abbrev pub fresh_ends : ℕ → BothEnds
fresh_ends maximum =
    record { sender = fresh_sending maximum; receiver = fresh_receiving maximum }

abbrev pub reset_ends : BothEnds → BothEnds
reset_ends e = record {
  sender = fresh_sending e.sender.maximum;
  receiver = fresh_receiving e.receiver.maximum;
}

-- ---- a block goes out

abbrev pub turn_with : ℕ → Order → List ℕ → Bool → Turn
turn_with t order octets good =
    record { tti = t; order = order; octets = octets; good = good }

abbrev pub turn_of : ℕ → Order → BlockTold → AirTold → Turn
turn_of t order b a = turn_with t order b.octets (is_intact a.heard)

-- it is told as it is sent: a new one with version 0, or the one that is held with its version
abbrev pub is_sent_by : Visit → Option (List ℕ) → BlockTold → Bool
is_sent_by visits.New held b = b.fresh && (b.version == 0)
is_sent_by (visits.Resend version) held b =
    not b.fresh && (b.version == version) && bytes_eq (unwrap_or held []) b.octets
is_sent_by visits.Silent held b = false

abbrev pub is_sent : ℕ → Order → BlockTold → Sending → Bool
is_sent t order b s =
    (b.process == t % 8)
    && is_sent_by (visit_answer s t order) (held_of (after_visit s t order) (t % 8)) b

-- ---- what came of it

abbrev pub is_dup : Arrived → Bool
is_dup arriveds.Got = false
is_dup arriveds.Dup = true
is_dup arriveds.Bad = false
is_dup arriveds.Nothing = false

abbrev pub is_damaged : Arrived → Bool
is_damaged arriveds.Got = false
is_damaged arriveds.Dup = false
is_damaged arriveds.Bad = true
is_damaged arriveds.Nothing = false

abbrev pub is_nothing : Arrived → Bool
is_nothing arriveds.Got = false
is_nothing arriveds.Dup = false
is_nothing arriveds.Bad = false
is_nothing arriveds.Nothing = true

-- the feedback on it is read as the outcome has it
abbrev pub is_read : Outcome → AirTold → Option Bool → Bool
is_read o a None = false
is_read o a (Some good) = same good (heard_through o.flipped (feedback a.what))

-- ---- the downlink

abbrev pub can_come_down : Fate → Arrived → Bool
can_come_down Ok what = is_got what || is_dup what
can_come_down Bad what = is_damaged what
can_come_down Miss what = is_nothing what

abbrev pub is_handed_up : Answer → Bool
is_handed_up answers.Up = true
is_handed_up answers.Again = false
is_handed_up answers.Damaged = false
is_handed_up answers.Nothing = false

abbrev pub is_known : Answer → Bool
is_known answers.Up = false
is_known answers.Again = true
is_known answers.Damaged = false
is_known answers.Nothing = false

-- the terminal sees a block with this NDI, or misses it
abbrev pub after_seeing : ℕ → Bool → Arrived → Receiving → Receiving
after_seeing t ndi arriveds.Got r = after_assigned r t ndi true
after_seeing t ndi arriveds.Dup r = after_assigned r t ndi true
after_seeing t ndi arriveds.Bad r = after_assigned r t ndi false
after_seeing t ndi arriveds.Nothing r = r

-- an intact one is `got` where it hands it up, and else `dup`
abbrev pub is_answered : ℕ → Bool → Arrived → Receiving → Bool
is_answered t ndi arriveds.Got r = is_handed_up (assigned_answer r t ndi true)
is_answered t ndi arriveds.Dup r = is_known (assigned_answer r t ndi true)
is_answered t ndi arriveds.Bad r = true
is_answered t ndi arriveds.Nothing r = true

abbrev pub sent_down : ℕ → BlockTold → AirTold → BothEnds → BothEnds
sent_down t b a e =
    let s = turned (turn_of t Free b a) e.sender in
    record { sender = s; receiver = after_seeing t (ndi_of s (t % 8)) a.what e.receiver }

abbrev pub is_sent_down : ℕ → Outcome → BlockTold → AirTold → BothEnds → Bool
is_sent_down t o b a e =
    let s = turned (turn_of t Free b a) e.sender in
    is_sent t Free b e.sender && can_come_down o.fate a.what && is_read o a a.heard
    && is_answered t (ndi_of s (t % 8)) a.what e.receiver

-- after a TTI of which this is told
abbrev pub after_down : ℕ → Option BlockTold → Option AirTold → BothEnds → BothEnds
after_down t None None e =
    record { sender = after_visit e.sender t Silent; receiver = e.receiver }
after_down t None (Some a) e = e
after_down t (Some b) None e = e
after_down t (Some b) (Some a) e = sent_down t b a e

-- a block is told of exactly where there is a grant, and it is right
abbrev pub is_down_right : ℕ → ℕ → Outcome → Option BlockTold → Option AirTold → BothEnds → Bool
is_down_right t grant o None None e = grant == 0
is_down_right t grant o None (Some a) e = false
is_down_right t grant o (Some b) None e = false
is_down_right t grant o (Some b) (Some a) e = not (grant == 0) && is_sent_down t o b a e

-- ---- the uplink

abbrev pub comes_up : Fate → Arrived → Bool
comes_up Ok what = is_got what
comes_up Bad what = is_damaged what
comes_up Miss what = is_got what

-- what the terminal sees of a grant
abbrev pub order_seen : ℕ → Outcome → Receiving → Order
order_seen t o r = if is_miss o.fate then Unseen else Grant (grant_ndi r t)

abbrev pub after_asking : ℕ → Option Bool → Receiving → Receiving
after_asking t good r = after_granted (after_grant r t) t good

abbrev pub after_grant_of : ℕ → Option Bool → BothEnds → BothEnds
after_grant_of t good e =
    record { sender = e.sender; receiver = after_asking t good e.receiver }

abbrev pub sent_up : ℕ → Outcome → BlockTold → AirTold → BothEnds → BothEnds
sent_up t o b a e = record {
  sender = turned (turn_of t (order_seen t o e.receiver) b a) e.sender;
  receiver = after_asking t (grant_brought a.what) e.receiver;
}

abbrev pub is_sent_up : ℕ → Outcome → BlockTold → AirTold → BothEnds → Bool
is_sent_up t o b a e =
    is_sent t (order_seen t o e.receiver) b e.sender && comes_up o.fate a.what
    && is_read o a a.heard

-- a terminal that misses the grant, and holds nothing, sends nothing
abbrev pub is_silent : Visit → Bool
is_silent visits.New = false
is_silent (visits.Resend version) = false
is_silent visits.Silent = true

abbrev pub is_unheard : Option Bool → Bool
is_unheard None = true
is_unheard (Some good) = false

abbrev pub unanswered : ℕ → BothEnds → BothEnds
unanswered t e = record {
  sender = after_visit e.sender t Unseen;
  receiver = after_asking t None e.receiver;
}

abbrev pub is_unanswered : ℕ → Outcome → AirTold → BothEnds → Bool
is_unanswered t o a e =
    is_silent (visit_answer e.sender t Unseen) && is_miss o.fate && is_nothing a.what
    && is_unheard a.heard

abbrev pub after_up : ℕ → Outcome → Option BlockTold → Option AirTold → BothEnds → BothEnds
after_up t o None None e = record {
  sender = after_visit e.sender t Silent;
  receiver = after_pass e.receiver t;
}
after_up t o None (Some a) e = unanswered t e
after_up t o (Some b) None e = e
after_up t o (Some b) (Some a) e = sent_up t o b a e

abbrev pub is_up_right : ℕ → ℕ → Outcome → Option BlockTold → Option AirTold → BothEnds → Bool
is_up_right t grant o None None e = grant == 0
is_up_right t grant o None (Some a) e = not (grant == 0) && is_unanswered t o a e
is_up_right t grant o (Some b) None e = false
is_up_right t grant o (Some b) (Some a) e = not (grant == 0) && is_sent_up t o b a e
