-- A receiver of an acknowledged data bearer hands up ascending COUNTs through lives.
use Rattle.std.proofs.Common.{◌≡◌, ℕ, ◌+◌, Bool, true, false, if◌then◌else◌, List, [], ◌∷◌, ◌++◌, Option, Some, None}
use Rattle.std.proofs.Common.{subst, refl, ap, ◌∙◌}
use Rattle.l2_num.specs.Ascending.{IsAscending}
use Rattle.pdcp_pdu.specs.Kinds.{is_am}
use Rattle.pdcp_rx.specs.declared.got.Cause.{Cause}
use Rattle.pdcp_rx.specs.declared.got.Got.{Got}
use Rattle.pdcp_rx.specs.declared.security.Opened.{Opened}
use Rattle.pdcp_rx.specs.declared.security.Opened.TheVariants.{Sdu, Differs}
use Rattle.pdcp_rx.specs.Heard.{Heard, Bad, Told, Data, heard}
use Rattle.pdcp_rx.specs.Held.{stored}
use Rattle.pdcp_rx.specs.State.{State, above, passed_over, opened_at, waits, raised, left_opened, left_data, left_heard}
use Rattle.pdcp_rx.specs.State.{arrived, restarted}
use Rattle.pdcp_rx.specs.Laws.{Arrive, Take, happens}
use Rattle.pdcp_rx.proofs.LawLemmas.{call_step}
use Rattle.law_pdcp.specs.OneEnd.Receiving.{Hearing, Calls, Restart, goes, counts_up_in, ups_of}

placed_kind : (s : State) (b : Bool) (at : ℕ) (sdu : List ℕ)
    → (if b then record s { held = stored s.held at sdu } else raised s (stored s.held at sdu) (at + 1)).kind ≡ s.kind
placed_kind s true at sdu = refl
placed_kind s false at sdu = refl

opened_kind : (s : State) (cause : Cause) (at : ℕ) (o : Opened) → (left_opened s cause at o).kind ≡ s.kind
opened_kind s cause at (Sdu sdu) = placed_kind s (waits s.kind cause at) at sdu
opened_kind s cause at (Differs found wanted) = refl

data_kind : (why : Option Got) (s : State) (cause : Cause) (at : ℕ) (o : Opened)
    → (left_data why s cause at o).kind ≡ s.kind
data_kind (Some why) s cause at o = refl
data_kind None s cause at o = opened_kind s cause at o

heard_kind : (h : Heard) (s : State) (cause : Cause) → (left_heard s cause h).kind ≡ s.kind
heard_kind (Bad refusal) s cause = refl
heard_kind (Told fms bits) s cause = refl
heard_kind (Data sn body) s cause =
    data_kind (passed_over s (above s sn)) s cause (above s sn) (opened_at s (above s sn) body)

pub kind_stays : (s : State) (x : Hearing) → (goes s x).kind ≡ s.kind
unfolding happens arrived restarted
kind_stays s (Calls (Arrive pdu cause)) = heard_kind (heard s.kind pdu) s cause
kind_stays s (Calls Take) = refl
kind_stays s (Restart keys) = refl

next_stays : (b : Bool) (next : ℕ) → b ≡ true → (if b then next else 0) ≡ next
next_stays true next e = refl
next_stays false next e = let no : false ≡ true = e in cc

step : (s : State) (x : Hearing) (rest : List ℕ) → is_am s.kind ≡ true → IsAscending (goes s x).next rest
    → IsAscending s.next (counts_up_in s x ++ rest)
unfolding restarted
step s (Calls c) rest am h = call_step c s rest h
step s (Restart keys) rest am h = subst (λ n. IsAscending n rest) (next_stays (is_am s.kind) s.next am) h

pub ascends : (s : State) (xs : List Hearing) → is_am s.kind ≡ true → IsAscending s.next (ups_of s xs)
ascends s [] am = tt
ascends s (x ∷ xs) am = step s x (ups_of (goes s x) xs) am (ascends (goes s x) xs (ap is_am (kind_stays s x) ∙ am))
