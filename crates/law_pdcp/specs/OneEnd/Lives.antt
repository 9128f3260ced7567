-- A sender through lives: calls, and re-establishments under other keys (TS 36.323 5.2).
use Rattle.std.specs.Prelude.{◌≡◌, ℕ, ◌-◌, ◌≤◌, if◌then◌else◌, List, [], ◌∷◌, ◌++◌, map, take}
use Rattle.std.specs.Prelude.{Option, Some, None, slice_get, All}
use Rattle.eps_sec.specs.declared.Keys.{Keys}
use Rattle.pdcp_sec.specs.Protection.{Protection}
use Rattle.pdcp_tx_store.specs.declared.given.Sent.{Sent}
use Rattle.pdcp_tx_store.specs.Waiting.{Waits}
use Rattle.pdcp_tx.specs.State.{State, Offer, offers, is_overdue, restarted}
use Rattle.pdcp_tx.specs.Runs.{Call, Submit, Take, Confirm, Report, Owe, Tick, Late, after}

-- a call, another length of the discard timer, or the end of a life and the beginning of the next
pub data Step : Type 0 where
  Calls : Call → Step
  SetDiscard : ℕ → Step
  Restart : Keys → Step

abbrev pub goes : State → Step → State
goes s (Calls c) = after s c
goes s (SetDiscard ttis) = record s { discard = Some ttis }
goes s (Restart keys) = restarted s keys

abbrev pub run_pdcp_sender : List Step → State → State
run_pdcp_sender [] s = s
run_pdcp_sender (x ∷ xs) s = run_pdcp_sender xs (goes s x)

-- ---- what is ciphered

-- an SDU with the COUNT that it is ciphered under, and what else the cipher takes
pub record Ciphering : Type 0 where
  pub protection : Protection
  pub count : ℕ
  pub sdu : List ℕ

-- a report isn't ciphered
abbrev pub ciphering_under : Protection → Option ℕ → List ℕ → List Ciphering
ciphering_under p None text = []
ciphering_under p (Some count) text = record { protection = p; count = count; sdu = text } ∷ []

abbrev pub ciphering_of : Protection → Option Offer → List Ciphering
ciphering_of p None = []
ciphering_of p (Some o) = ciphering_under p o.count o.text

abbrev pub ciphers_in : State → Call → List Ciphering
ciphers_in s (Submit sdu) = []
ciphers_in s Take = ciphering_of s.protection (slice_get (offers s) 0)
ciphers_in s (Confirm place) = []
ciphers_in s (Report fms bitmap) = []
ciphers_in s (Owe report) = []
ciphers_in s Tick = []
ciphers_in s Late = []

abbrev pub ciphers : State → Step → List Ciphering
ciphers s (Calls c) = ciphers_in s c
ciphers s (SetDiscard ttis) = []
ciphers s (Restart keys) = []

-- all that is ciphered, in order
abbrev pub cipherings : State → List Step → List Ciphering
cipherings s [] = []
cipherings s (x ∷ xs) = ciphers s x ++ cipherings (goes s x) xs

-- ---- SDUs by their first taking

abbrev pub first_sdu : List Waits → List (List ℕ)
first_sdu [] = []
first_sdu (w ∷ ws) = w.sdu ∷ []

abbrev pub new_behind : List Sent → State → List (List ℕ)
new_behind [] s = first_sdu (take (s.bound - s.next) s.waiting)
new_behind (x ∷ xs) s = []

abbrev pub new_of : Option (List ℕ) → State → List (List ℕ)
new_of None s = new_behind s.again s
new_of (Some report) s = []

-- the SDU that a call takes for the first time
abbrev pub takes_new : State → Call → List (List ℕ)
takes_new s (Submit sdu) = []
takes_new s Take = new_of s.owed s
takes_new s (Confirm place) = []
takes_new s (Report fms bitmap) = []
takes_new s (Owe report) = []
takes_new s Tick = []
takes_new s Late = []

abbrev pub takes_first : State → Step → List (List ℕ)
takes_first s (Calls c) = takes_new s c
takes_first s (SetDiscard ttis) = []
takes_first s (Restart keys) = []

-- the SDUs that were taken for the first time, in order
abbrev pub first_taken : State → List Step → List (List ℕ)
first_taken s [] = []
first_taken s (x ∷ xs) = takes_first s x ++ first_taken (goes s x) xs

-- COUNT first + k is that of SDU k of a list
abbrev pub Names : ℕ → List (List ℕ) → ℕ → List ℕ → Type 0
Names first sdus count sdu = (first ≤ count) × (slice_get sdus (count - first) ≡ Some sdu)

-- what is ciphered under a COUNT is the SDU of its place
abbrev pub AreNamed : ℕ → List (List ℕ) → List Ciphering → Type 0
AreNamed first sdus cs = All (λ c. Names first sdus c.count c.sdu) cs

-- ---- the queue of SDUs without a COUNT

abbrev pub submits : Step → List (List ℕ)
submits (Calls (Submit sdu)) = sdu ∷ []
submits (Calls Take) = []
submits (Calls (Confirm place)) = []
submits (Calls (Report fms bitmap)) = []
submits (Calls (Owe report)) = []
submits (Calls Tick) = []
submits (Calls Late) = []
submits (SetDiscard ttis) = []
submits (Restart keys) = []

abbrev pub submitted_in : List Step → List (List ℕ)
submitted_in [] = []
submitted_in (x ∷ xs) = submits x ++ submitted_in xs

-- the SDU that a call takes or discards
abbrev pub leaves : State → Step → List (List ℕ)
leaves s (Calls (Submit sdu)) = []
leaves s (Calls Take) = takes_new s Take
leaves s (Calls (Confirm place)) = []
leaves s (Calls (Report fms bitmap)) = []
leaves s (Calls (Owe report)) = []
leaves s (Calls Tick) = []
leaves s (Calls Late) = if is_overdue s then first_sdu s.waiting else []
leaves s (SetDiscard ttis) = []
leaves s (Restart keys) = []

abbrev pub left_in : State → List Step → List (List ℕ)
left_in s [] = []
left_in s (x ∷ xs) = leaves s x ++ left_in (goes s x) xs

-- the SDUs that wait
abbrev pub queue : State → List (List ℕ)
queue s = map (λ w. w.sdu) s.waiting
