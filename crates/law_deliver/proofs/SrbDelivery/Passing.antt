-- What a bearer says and hears is to RLC's flow the data PDUs that it writes and that come to it; a STATUS tells
-- nothing of what goes this way.
use Rattle.std.proofs.Common.{◌≡◌, ℕ, Bool, true, false, if◌then◌else◌, List, [], ◌∷◌, ◌++◌, map, Result, Ok, refl, ap}
use Rattle.std.proofs.Common.{◌∙◌}
use Rattle.bearer.specs.Acknowledged.State.{State}
use Rattle.bearer.specs.Acknowledged.Taking.{writes_status, status_pdu}
use Rattle.bearer.specs.Taking.{pdus, told}
use Rattle.bearer.specs.declared.flow.Flow.TheVariants.{Am}
use Rattle.bearer_pdcp.specs.Telling.{pdus_of}
use Rattle.law_bearer.specs.AnyBearer.Acknowledged.{data_given}
use Rattle.law_bearer.specs.AnyBearer.Calls.{Call, Submit, Take, Arrive, Expire, Tick, SetDiscard}
use Rattle.law_bearer.proofs.AnyBearer.SenderCalls.{writes_what_rlc_gives}
use Rattle.law_deliver.specs.AmDelivery.Arrival.{said_in, heard_in}
use Rattle.law_deliver.specs.AmFlow.Pair.{data_by}
use Rattle.law_deliver.proofs.SrbDelivery.Quiet.{IsCall}
use Rattle.law_deliver.specs.SrbDelivery.Arrival.{passes_of}
use Rattle.law_rlc.specs.AmArrival.Arrival.{written_in}
use Rattle.law_words.specs.Arrivals.{Given, AccountEntry, Gives, Passes, Renews}
use Rattle.law_words.specs.Passing.{Passing, Writes, Comes, Told, with_passings, written_as, come_as}
use Rattle.pdcp_pdu.specs.Kinds.{bits_of}
use Rattle.promises.specs.Given.{given_in, entries_of, entries_passed}
use Rattle.std.specs.List.{flat_map}
use Rattle.rlc_pdu.specs.Pdus.{AcknowledgedPdu, StatusPdu, Status as Control}
use Rattle.rlc_pdu.specs.Reading.{am_at}
use Rattle.rlc_pdu.specs.declared.RlcRefusal.{RlcRefusal}
use Rattle.rlc_pdu.specs.declared.outcome.Taken.{Taken}
use Rattle.rlc_pdu.specs.declared.outcome.Taken.TheVariants as taken

-- ---- the PDUs among what happens

pub passes_then : (xs ys : List AccountEntry) → passes_of (xs ++ ys) ≡ passes_of xs ++ passes_of ys
passes_then [] ys = refl
passes_then (Gives g ∷ xs) ys = passes_then xs ys
passes_then (Passes p ∷ xs) ys = ap (λ (ps : List Passing). p ∷ ps) (passes_then xs ys)
passes_then (Renews ∷ xs) ys = passes_then xs ys

pub passes_given : (gs : List Given) → passes_of (entries_of gs) ≡ []
passes_given [] = refl
passes_given (g ∷ gs) = passes_given gs

pub passes_passing : (ps : List Passing) → passes_of (entries_passed ps) ≡ ps
passes_passing [] = refl
passes_passing (p ∷ ps) = ap (λ (qs : List Passing). p ∷ qs) (passes_passing ps)

pub passes_behind : (gs : List Given) (ps : List Passing) → passes_of (entries_of gs ++ entries_passed ps) ≡ ps
passes_behind gs ps = passes_then (entries_of gs) (entries_passed ps)
    ∙ ap (λ (qs : List Passing). qs ++ passes_of (entries_passed ps)) (passes_given gs) ∙ passes_passing ps

-- ---- what is written

abbrev pub StatusIs : List ℕ → Type 0
StatusIs octets = (pdu : StatusPdu) × (am_at octets ≡ Ok (Control pdu))

wrote_piece : (t : Taken) → map (λ pdu. Writes pdu) (pdus_of t) ≡ written_in t
wrote_piece (taken.Piece number fresh polled octets) = refl
wrote_piece taken.Idle = refl
wrote_piece taken.Small = refl
wrote_piece taken.Shut = refl
wrote_piece taken.Held = refl
wrote_piece taken.Stopped = refl

wrote_by : (due : Bool) (octets : List ℕ) (d : Taken) (t : Told) → StatusIs octets
    → with_passings (map (λ pdu. Writes pdu) ((if due then octets ∷ [] else []) ++ pdus_of d)) t
    ≡ with_passings (written_in d) t
wrote_by true octets d t is =
    ap (λ (x : Result AcknowledgedPdu RlcRefusal). with_passings (map (λ pdu. Writes pdu) (pdus_of d)) (written_as x t))
    is.1
    ∙ ap (λ (ps : List Passing). with_passings ps t) (wrote_piece d)
wrote_by false octets d t is = ap (λ (ps : List Passing). with_passings ps t) (wrote_piece d)

pub says_told : (b : State) (c : Call) (t : Told) → ((share : ℕ) → StatusIs (status_pdu b.rx share))
    → with_passings (passes_of (said_in b c)) t ≡ with_passings (written_in (data_by b c)) t
says_told b (Submit sdu) t is = refl
says_told b (Take share held) t is =
    ap (λ (ps : List Passing). with_passings ps t)
    (passes_behind (flat_map (given_in (bits_of b.pdcp.kind)) (told b.pdcp.lcid (Am b) share held))
    (map (λ pdu. Writes pdu) (pdus (Am b) share held))
    ∙ ap (λ (l : List (List ℕ)). map (λ pdu. Writes pdu) l) (writes_what_rlc_gives b share held))
    ∙ wrote_by (writes_status b.rx share) (status_pdu b.rx share) (data_given b share held) t (is share)
says_told b (Arrive pdu) t is = refl
says_told b (Expire clock) t is = refl
says_told b Tick t is = refl
says_told b (SetDiscard ttis) t is = refl

-- ---- what comes

pub hears_none : (c : Call) → IsCall c → passes_of (heard_in c) ≡ []
hears_none (Submit sdu) is = refl
hears_none (Take share held) is = refl
hears_none (Arrive pdu) is = absurd is
hears_none (Expire clock) is = refl
hears_none Tick is = refl
hears_none (SetDiscard ttis) is = refl

-- a STATUS
pub hears_status : (octets : List ℕ) (pdu : StatusPdu) (t : Told) → am_at octets ≡ Ok (Control pdu)
    → with_passings (Comes octets ∷ []) t ≡ t
hears_status octets pdu t read = ap (λ (x : Result AcknowledgedPdu RlcRefusal). come_as x t) read
