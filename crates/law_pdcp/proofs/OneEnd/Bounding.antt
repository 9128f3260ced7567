-- The bound on COUNTs.
use Rattle.std.proofs.Common.{◌≡◌, ℕ, ◌+◌, ◌-◌, Bool, true, false, not, ◌&&◌, List, [], ◌∷◌, ◌++◌, take, Option, Some}
use Rattle.std.proofs.Common.{None, refl, ap, sym, ◌∙◌, IsTrue}
use Rattle.eps_sec.specs.declared.Keys.{Keys}
use Rattle.pdcp_pdu.specs.declared.PdcpKind.{PdcpKind}
use Rattle.pdcp_pdu.specs.Kinds.{is_am}
use Rattle.pdcp_sec.specs.Protection.{Protection}
use Rattle.pdcp_tx_store.specs.declared.given.Sent.{Sent}
use Rattle.pdcp_tx_store.specs.declared.given.Entry.{Entry}
use Rattle.pdcp_tx_store.specs.declared.given.Entry.TheVariants.{Data, Own, Gone}
use Rattle.pdcp_tx_store.specs.Waiting.{Waits}
use Rattle.pdcp_tx.specs.Pdus.{width}
use Rattle.pdcp_tx_store.specs.Given.{with_ack, entry_at, is_own, settled, with_report, untold, trimmed, first_open}
use Rattle.pdcp_tx_store.specs.Given.{first_unacked, from_unacked, data_of}
use Rattle.pdcp_tx.specs.State.{State, start, sent, or_else, low, moved, submitted, took, took_owed, took_again}
use Rattle.pdcp_tx.specs.State.{took_new, confirmed, reported, reported_from, fms_count, after_late, restarted}
use Rattle.pdcp_tx.specs.State.{first_again, kept_again, next_from}
use Rattle.pdcp_tx.specs.Runs.{Call, Submit, Take, Confirm, Report, Owe, Tick, Late}
use Rattle.law_pdcp.specs.OneEnd.Lives.{Step, Calls, SetDiscard, Restart, goes, run_pdcp_sender}
use Rattle.law_pdcp.specs.OneEnd.Bounds.{IsBounded, StandsStill}
use Rattle.law_pdcp.proofs.OneEnd.KindStays.{kind_stays}

-- ---- the first unconfirmed COUNT stays where a call takes something

open_step : (s : Sent) (es : List Entry) (e : Entry) (n : ℕ) (b : Bool) → s.acked ≡ b
    → or_else (first_open (es ++ e ∷ [])) n ≡ or_else (first_open es) (or_else (first_open (e ∷ [])) n)
    → or_else (first_open (Data s ∷ es ++ e ∷ [])) n
    ≡ or_else (first_open (Data s ∷ es)) (or_else (first_open (e ∷ [])) n)
open_step s es e n true a h = rw a h
open_step s es e n false a h = rw a refl

open_more : (es : List Entry) (e : Entry) (n : ℕ)
    → or_else (first_open (es ++ e ∷ [])) n ≡ or_else (first_open es) (or_else (first_open (e ∷ [])) n)
open_more [] e n = refl
open_more (Data s ∷ es) e n = open_step s es e n s.acked refl (open_more es e n)
open_more (Own ∷ es) e n = open_more es e n
open_more (Gone ∷ es) e n = open_more es e n

trim_step : (s : Sent) (es : List Entry) (b : Bool) → s.acked ≡ b → first_open (trimmed es) ≡ first_open es
    → first_open (trimmed (Data s ∷ es)) ≡ first_open (Data s ∷ es)
trim_step s es true a h = rw a h
trim_step s es false a h = rw a refl

open_trimmed : (es : List Entry) → first_open (trimmed es) ≡ first_open es
open_trimmed [] = refl
open_trimmed (Data s ∷ es) = trim_step s es s.acked refl (open_trimmed es)
open_trimmed (Own ∷ es) = refl
open_trimmed (Gone ∷ es) = open_trimmed es

-- the first of those to be taken again counts alike before and after it is taken
first_step : (x : Sent) (xs : List Sent) (n : ℕ) (b : Bool) → x.acked ≡ b
    → or_else (first_open (Data x ∷ [])) (or_else (first_unacked xs) n) ≡ or_else (first_unacked (x ∷ xs)) n
first_step x xs n true a = rw a refl
first_step x xs n false a = rw a refl

new_low : (s : State) (ws : List Waits) → is_am s.kind ≡ true → s.again ≡ [] → low (took_new ws s) ≡ low s
new_low s [] am a = refl
new_low s (w ∷ ws) am a = rw (am, a) (open_more s.given.entries (Data (sent s.next w.sdu false)) (s.next + 1))

again_low : (s : State) (ss : List Sent) → is_am s.kind ≡ true → s.again ≡ ss → low (took_again ss s) ≡ low s
again_low s [] am a = new_low s (take (s.bound - s.next) s.waiting) am a
again_low s (x ∷ xs) am a =
    rw (a, open_trimmed (s.given.entries ++ Data x ∷ []))
    (open_more s.given.entries (Data x) (or_else (first_unacked xs) s.next)
    ∙ ap (or_else (first_open s.given.entries)) (first_step x xs s.next x.acked refl))

owed_low : (s : State) (o : Option (List ℕ)) → is_am s.kind ≡ true → low (took_owed o s) ≡ low s
owed_low s None am = again_low s s.again am refl
owed_low s (Some r) am = open_more s.given.entries Own (or_else (first_unacked s.again) s.next)

new_bound : (s : State) (ws : List Waits) → ((took_new ws s).bound ≡ s.bound)
    × ((took_new ws s).reporting ≡ s.reporting)
new_bound s [] = (refl, refl)
new_bound s (w ∷ ws) = (refl, refl)

again_bound : (s : State) (ss : List Sent) → ((took_again ss s).bound ≡ s.bound)
    × ((took_again ss s).reporting ≡ s.reporting)
again_bound s [] = new_bound s (take (s.bound - s.next) s.waiting)
again_bound s (x ∷ xs) = (refl, refl)

owed_bound : (s : State) (o : Option (List ℕ)) → ((took_owed o s).bound ≡ s.bound)
    × ((took_owed o s).reporting ≡ s.reporting)
owed_bound s None = again_bound s s.again
owed_bound s (Some r) = (refl, refl)

take_bounded : (s : State) → is_am s.kind ≡ true → IsBounded s → IsBounded (took s)
unfolding took
take_bounded s am h r =
    (owed_bound s s.owed).0 ∙ h (sym (owed_bound s s.owed).1 ∙ r)
    ∙ ap (λ n. n + width s.kind) (sym (owed_low s s.owed am))
    ∙ ap (λ k. low (took_owed s.owed s) + width k) (sym (kind_stays s (Calls Take)))

-- ---- where the bound moves

moved_bounded : (s : State) → IsBounded (moved s)
moved_bounded s r = rw r refl

report_bounded : (s : State) (c : Option ℕ) (bitmap : List ℕ) → IsBounded s → IsBounded (reported_from c s bitmap)
report_bounded s None bitmap h = h
report_bounded s (Some c) bitmap h =
    moved_bounded (record s { given = settled (with_report s.given c bitmap); again = untold c bitmap s.again })

-- what a life takes again begins with an SDU that RLC hasn't acknowledged
abbrev Leads : List Sent → Type 0
Leads [] = Unit {0}
Leads (s ∷ ss) = s.acked ≡ false

leads_step : (s : Sent) (ss : List Sent) (b : Bool) → s.acked ≡ b → Leads (from_unacked ss)
    → Leads (from_unacked (s ∷ ss))
leads_step s ss true a h = rw a h
leads_step s ss false a h = rw a refl

leads_all : (ss : List Sent) → Leads (from_unacked ss)
leads_all [] = tt
leads_all (s ∷ ss) = leads_step s ss s.acked refl (leads_all ss)

first_is_low : (ss : List Sent) (n : ℕ) → Leads ss → first_again ss n ≡ or_else (first_unacked ss) n
first_is_low [] n h = refl
first_is_low (s ∷ ss) n h = rw h refl

restart_bounded : (s : State) (keys : Keys) → IsBounded (restarted s keys)
unfolding restarted
restart_bounded s keys r =
    ap (λ n. n + width s.kind) (first_is_low (kept_again s) (next_from s.kind s.next)
    (leads_all (data_of s.given.entries ++ s.again)))

goes_bounded : (s : State) (x : Step) → is_am s.kind ≡ true → IsBounded s → IsBounded (goes s x)
unfolding submitted confirmed reported after_late
goes_bounded s (Calls (Submit sdu)) am h = h
goes_bounded s (Calls Take) am h = take_bounded s am h
goes_bounded s (Calls (Confirm place)) am h =
    moved_bounded (record s {
      given = settled (with_ack s.given place);
      reporting = s.reporting && not (is_own (entry_at s.given place));
    })
goes_bounded s (Calls (Report fms bitmap)) am h = report_bounded s (fms_count s.kind s.base fms) bitmap h
goes_bounded s (Calls (Owe report)) am h = λ r. let no : true ≡ false = r in cc
goes_bounded s (Calls Tick) am h = h
goes_bounded s (Calls Late) am h = h
goes_bounded s (SetDiscard ttis) am h = h
goes_bounded s (Restart keys) am h = restart_bounded s keys

run_bounded : (xs : List Step) (s : State) → is_am s.kind ≡ true → IsBounded s → IsBounded (run_pdcp_sender xs s)
run_bounded [] s am h = h
run_bounded (x ∷ xs) s am h = run_bounded xs (goes s x) (ap is_am (kind_stays s x) ∙ am) (goes_bounded s x am h)

begins : (kind : PdcpKind) (p : Protection) (first : ℕ) → IsBounded (start kind p first)
unfolding start
begins kind p first r = refl

start_kind : (kind : PdcpKind) (p : Protection) (first : ℕ) → (start kind p first).kind ≡ kind
unfolding start
start_kind kind p first = refl

pub bounded : (kind : PdcpKind) (p : Protection) (first : ℕ) (steps : List Step) → IsTrue (is_am kind)
    → IsBounded (run_pdcp_sender steps (start kind p first))
bounded kind p first steps am =
    run_bounded steps (start kind p first) (ap is_am (start_kind kind p first) ∙ am) (begins kind p first)

moved_still : (s : State) → s.reporting ≡ true → (moved s).bound ≡ s.bound
moved_still s r = rw r refl

confirm_still : (s : State) (place : ℕ) (b : Bool) → s.reporting && not (is_own (entry_at s.given place)) ≡ b
    → b ≡ true → (confirmed s place).bound ≡ s.bound
unfolding confirmed
confirm_still s place b e t =
    moved_still (record s {
      given = settled (with_ack s.given place);
      reporting = s.reporting && not (is_own (entry_at s.given place));
    }) (e ∙ t)

report_still : (s : State) (c : Option ℕ) (bitmap : List ℕ) → s.reporting ≡ true
    → (reported_from c s bitmap).bound ≡ s.bound
report_still s None bitmap r = refl
report_still s (Some c) bitmap r =
    moved_still (record s { given = settled (with_report s.given c bitmap); again = untold c bitmap s.again }) r

pub stands_still : (s : State) (c : Call) → StandsStill s c
unfolding submitted took reported after_late confirmed
stands_still s (Submit sdu) r t = refl
stands_still s Take r t = (owed_bound s s.owed).0
stands_still s (Confirm place) r t = confirm_still s place (s.reporting && not (is_own (entry_at s.given place))) refl t
stands_still s (Report fms bitmap) r t = report_still s (fms_count s.kind s.base fms) bitmap r
stands_still s (Owe report) r t = refl
stands_still s Tick r t = refl
stands_still s Late r t = refl
