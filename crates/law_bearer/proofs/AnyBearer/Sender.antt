-- A sender through steps, with what is taken.
use Rattle.std.proofs.Common.{◌≡◌, Bool, true, false, if◌then◌else◌, ℕ, zero, suc, ◌-◌, List, [], ◌∷◌, ◌++◌, take, drop}
use Rattle.std.proofs.Common.{map, Option, Some, None, append_assoc, subst, refl, ap, sym, ◌∙◌}
use Rattle.std.proofs.lemmas.List.{append-nil}
use Rattle.eps_sec.specs.declared.Keys.{Keys}
use Rattle.pdcp_tx_store.specs.declared.given.Sent.{Sent}
use Rattle.pdcp_tx_store.specs.Waiting.{Waits}
use Rattle.pdcp_tx.specs.State.{State, Offer, offers, submitted, took, took_owed, took_again, took_new, confirmed}
use Rattle.pdcp_tx.specs.State.{reported, reported_from, fms_count, after_late, is_overdue, written}
use Rattle.pdcp_tx.specs.Runs.{Submit, Take, Confirm, Report, Owe, Tick, Late}
use Rattle.pdcp_tx.proofs.Head.{heads}
use Rattle.law_pdcp.specs.OneEnd.Lives.{Step, Calls, SetDiscard, Restart, goes, run_pdcp_sender, takes_first, submits}
use Rattle.law_pdcp.specs.OneEnd.Lives.{first_sdu}
use Rattle.law_pdcp.specs.OneEnd.Lives.{new_behind, new_of, leaves}
use Rattle.law_bearer.specs.AnyBearer.Stream.{pdu_of}

-- ---- what steps do: what is taken, which of it for the first time, what is submitted, and what leaves the queue

pub record Doings : Type 0 where
  pub taken : List Offer
  pub news : List (List ℕ)
  pub submitted : List (List ℕ)
  pub left : List (List ℕ)

abbrev pub nothing : Doings
nothing = record { taken = []; news = []; submitted = []; left = [] }

abbrev pub also : Doings → Doings → Doings
also a b = record {
  taken = a.taken ++ b.taken;
  news = a.news ++ b.news;
  submitted = a.submitted ++ b.submitted;
  left = a.left ++ b.left;
}

also_assoc : (a b c : Doings) → also (also a b) c ≡ also a (also b c)
also_assoc a b c =
    let one = append_assoc a.taken b.taken c.taken in
    let two = append_assoc a.news b.news c.news in
    let three = append_assoc a.submitted b.submitted c.submitted in
    let four = append_assoc a.left b.left c.left in
    rw (one, two, three, four) refl

abbrev pub takes_at : State → Step → List Offer
takes_at s (Calls (Submit sdu)) = []
takes_at s (Calls Take) = take 1 (offers s)
takes_at s (Calls (Confirm place)) = []
takes_at s (Calls (Report fms bitmap)) = []
takes_at s (Calls (Owe report)) = []
takes_at s (Calls Tick) = []
takes_at s (Calls Late) = []
takes_at s (SetDiscard ttis) = []
takes_at s (Restart keys) = []

abbrev pub does : State → Step → Doings
does s x = record { taken = takes_at s x; news = takes_first s x; submitted = submits x; left = leaves s x }

abbrev pub doings : State → List Step → Doings
doings s [] = nothing
doings s (x ∷ xs) = also (does s x) (doings (goes s x) xs)

pub run_more : (s : State) (xs ys : List Step) → run_pdcp_sender (xs ++ ys) s
    ≡ run_pdcp_sender ys (run_pdcp_sender xs s)
run_more s [] ys = refl
run_more s (x ∷ xs) ys = run_more (goes s x) xs ys

pub doings_more : (s : State) (xs ys : List Step) → doings s (xs ++ ys)
    ≡ also (doings s xs) (doings (run_pdcp_sender xs s) ys)
doings_more s [] ys = refl
doings_more s (x ∷ xs) ys = ap (also (does s x)) (doings_more (goes s x) xs ys)
    ∙ sym (also_assoc (does s x) (doings (goes s x) xs) (doings (run_pdcp_sender xs (goes s x)) ys))

-- ---- steps of one life

abbrev pub IsOfLife : Step → Type 0
IsOfLife (Calls (Submit sdu)) = Unit {0}
IsOfLife (Calls Take) = Unit {0}
IsOfLife (Calls (Confirm place)) = Unit {0}
IsOfLife (Calls (Report fms bitmap)) = Unit {0}
IsOfLife (Calls (Owe report)) = ⊥
IsOfLife (Calls Tick) = Unit {0}
IsOfLife (Calls Late) = Unit {0}
IsOfLife (SetDiscard ttis) = Unit {0}
IsOfLife (Restart keys) = ⊥

abbrev pub AreOfLife : List Step → Type 0
AreOfLife [] = Unit {0}
AreOfLife (x ∷ xs) = IsOfLife x × AreOfLife xs

life_more : (xs ys : List Step) → AreOfLife xs → AreOfLife ys → AreOfLife (xs ++ ys)
life_more [] ys h k = k
life_more (x ∷ xs) ys h k = (h.0, life_more xs ys h.1 k)

-- a sender comes from one state to another, and does something on the way: within a life, or through lives
pub record Moved (s t : State) (d : Doings) : Type 0 where
  pub steps : List Step
  pub life : AreOfLife steps
  pub left : t ≡ run_pdcp_sender steps s
  pub did : d ≡ doings s steps

pub record Lived (s t : State) (d : Doings) : Type 0 where
  pub steps : List Step
  pub left : t ≡ run_pdcp_sender steps s
  pub did : d ≡ doings s steps

pub still : (s : State) → Moved s s nothing
still s = record { steps = []; life = tt; left = refl; did = refl }

did_then : (s t : State) (xs ys : List Step) (d e : Doings) → t ≡ run_pdcp_sender xs s → d ≡ doings s xs
    → e ≡ doings t ys
    → also d e ≡ doings s (xs ++ ys)
did_then s t xs ys d e q a b =
    ap (λ x. also x e) a ∙ ap (also (doings s xs)) (b ∙ ap (λ r. doings r ys) q) ∙ sym (doings_more s xs ys)

pub moved_then : (s t u : State) (d e : Doings) → Moved s t d → Moved t u e → Moved s u (also d e)
moved_then s t u d e m n = record {
  steps = m.steps ++ n.steps;
  life = life_more m.steps n.steps m.life n.life;
  left = n.left ∙ ap (run_pdcp_sender n.steps) m.left ∙ sym (run_more s m.steps n.steps);
  did = did_then s t m.steps n.steps d e m.left m.did n.did;
}

pub lived : (s t : State) (d : Doings) → Moved s t d → Lived s t d
lived s t d m = record { steps = m.steps; left = m.left; did = m.did }

pub lived_then : (s t u : State) (d e : Doings) → Lived s t d → Lived t u e → Lived s u (also d e)
lived_then s t u d e m n = record {
  steps = m.steps ++ n.steps;
  left = n.left ∙ ap (run_pdcp_sender n.steps) m.left ∙ sym (run_more s m.steps n.steps);
  did = did_then s t m.steps n.steps d e m.left m.did n.did;
}

abbrev pub submitting : List ℕ → Doings
submitting sdu = record { taken = []; news = []; submitted = sdu ∷ []; left = [] }

-- one step
pub submits_one : (s : State) (sdu : List ℕ) → Moved s (submitted s sdu) (submitting sdu)
submits_one s sdu = record { steps = Calls (Submit sdu) ∷ []; life = (tt, tt); left = refl; did = refl }

pub confirms_one : (s : State) (place : ℕ) → Moved s (confirmed s place) nothing
confirms_one s place = record { steps = Calls (Confirm place) ∷ []; life = (tt, tt); left = refl; did = refl }

pub reports : (s : State) (fms : ℕ) (bitmap : List ℕ) → Moved s (reported s fms bitmap) nothing
reports s fms bitmap = record { steps = Calls (Report fms bitmap) ∷ []; life = (tt, tt); left = refl; did = refl }

pub ticks_once : (s : State) → Moved s (goes s (Calls Tick)) nothing
ticks_once s = record { steps = Calls Tick ∷ []; life = (tt, tt); left = refl; did = refl }

abbrev pub leaving : List (List ℕ) → Doings
leaving sdus = record { taken = []; news = []; submitted = []; left = sdus }

pub drops_one : (s : State) → Moved s (after_late s) (leaving (leaves s (Calls Late)))
drops_one s = record {
  steps = Calls Late ∷ [];
  life = (tt, tt);
  left = refl;
  did =
      let one = append-nil (leaves s (Calls Late)) in
      rw one refl;
}

pub sets : (s : State) (ttis : ℕ) → Moved s (goes s (SetDiscard ttis)) nothing
sets s ttis = record { steps = SetDiscard ttis ∷ []; life = (tt, tt); left = refl; did = refl }

pub restarts : (s : State) (keys : Keys) → Lived s (goes s (Restart keys)) nothing
restarts s keys = record { steps = Restart keys ∷ []; left = refl; did = refl }

pub owes : (s : State) (report : List ℕ) → Lived s (goes s (Calls (Owe report))) nothing
owes s report = record { steps = Calls (Owe report) ∷ []; left = refl; did = refl }

-- ---- takes

abbrev pub took_all : ℕ → State → State
took_all zero s = s
took_all (suc n) s = took_all n (took s)

-- the SDUs that they take for the first time
abbrev pub firsts : ℕ → State → List (List ℕ)
firsts zero s = []
firsts (suc n) s = new_of s.owed s ++ firsts n (took s)

abbrev pub takings : ℕ → State → Doings
takings n s = record { taken = take n (offers s); news = firsts n s; submitted = []; left = firsts n s }

pub none_of : (n : ℕ) (os : List Offer) → os ≡ [] → take n os ≡ []
none_of zero os q = refl
none_of (suc n) [] q = refl
none_of (suc n) (o ∷ os) q = let no : o ∷ os ≡ [] = q in cc

take_next : (n : ℕ) (os : List Offer) → take 1 os ++ take n (drop 1 os) ≡ take (suc n) os
take_next n [] = none_of n [] refl
take_next n (o ∷ os) = refl

take_one : (s : State) → Moved s (took s) (takings 1 s)
take_one s = record {
  steps = Calls Take ∷ [];
  life = (tt, tt);
  left = refl;
  did =
      let one = append-nil (take 1 (offers s)) in
      rw one refl;
}

pub takes_all : (n : ℕ) (s : State) → Moved s (took_all n s) (takings n s)
takes_all zero s = still s
takes_all (suc n) s =
    let one : take 1 (offers s) ++ take n (offers (took s)) ≡ take (suc n) (offers s) =
    ap (λ l. take 1 (offers s) ++ take n l) (heads s) ∙ take_next n (offers s) in
    let two : (new_of s.owed s ++ []) ++ firsts n (took s) ≡ firsts (suc n) s =
    ap (λ l. l ++ firsts n (took s)) (append-nil (new_of s.owed s)) in
    let same : also (takings 1 s) (takings n (took s)) ≡ takings (suc n) s = rw (one, two) refl in
    subst (Moved s (took_all n (took s))) same
    (moved_then s (took s) (took_all n (took s)) (takings 1 s) (takings n (took s)) (take_one s)
    (takes_all n (took s)))

pub none_left : (n : ℕ) (os : List Offer) → os ≡ [] → drop n os ≡ []
none_left zero os q = q
none_left (suc n) [] q = refl
none_left (suc n) (o ∷ os) q = let no : o ∷ os ≡ [] = q in cc

drop_next : (n : ℕ) (os : List Offer) → drop n (drop 1 os) ≡ drop (suc n) os
drop_next n [] = none_left n [] refl
drop_next n (o ∷ os) = refl

pub left_of : (n : ℕ) (s : State) → offers (took_all n s) ≡ drop n (offers s)
left_of zero s = refl
left_of (suc n) s = left_of n (took s) ∙ ap (drop n) (heads s) ∙ drop_next n (offers s)

-- ---- SDUs leave the queue at its front

abbrev pub sdus : List Waits → List (List ℕ)
sdus ws = map (λ w. w.sdu) ws

took_first : (s : State) (k : ℕ) (ws : List Waits) → s.waiting ≡ ws
    → first_sdu (take k ws) ++ sdus (took_new (take k ws) s).waiting ≡ sdus ws
took_first s zero ws e = ap sdus e
took_first s (suc k) [] e = ap sdus e
took_first s (suc k) (w ∷ ws) e = ap (λ l. w.sdu ∷ sdus (drop 1 l)) e

took_behind : (s : State) (ss : List Sent) → new_behind ss s ++ sdus (took_again ss s).waiting ≡ sdus s.waiting
took_behind s [] = took_first s (s.bound - s.next) s.waiting refl
took_behind s (x ∷ xs) = refl

took_any : (s : State) (o : Option (List ℕ)) → new_of o s ++ sdus (took_owed o s).waiting ≡ sdus s.waiting
took_any s None = took_behind s s.again
took_any s (Some r) = refl

late_front : (b : Bool) (ws : List Waits) → (if b then first_sdu ws else []) ++ sdus (if b then drop 1 ws else ws)
    ≡ sdus ws
late_front true [] = refl
late_front true (w ∷ ws) = refl
late_front false ws = refl

submit_last : (ws : List Waits) (w : Waits) → sdus (ws ++ w ∷ []) ≡ sdus ws ++ w.sdu ∷ []
submit_last [] w = refl
submit_last (x ∷ ws) w = ap (λ l. x.sdu ∷ l) (submit_last ws w)

report_queue : (s : State) (c : Option ℕ) (bitmap : List ℕ) → sdus (reported_from c s bitmap).waiting ≡ sdus s.waiting
report_queue s None bitmap = refl
report_queue s (Some c) bitmap = refl

step_queue : (s : State) (x : Step) → IsOfLife x → leaves s x ++ sdus (goes s x).waiting ≡ sdus s.waiting ++ submits x
unfolding submitted took confirmed reported after_late
step_queue s (Calls (Submit sdu)) h = submit_last s.waiting (record { sdu = sdu; born = s.clock })
step_queue s (Calls Take) h = took_any s s.owed ∙ sym (append-nil (sdus s.waiting))
step_queue s (Calls (Confirm place)) h = sym (append-nil (sdus s.waiting))
step_queue s (Calls (Report fms bitmap)) h = report_queue s (fms_count s.kind s.base fms) bitmap
    ∙ sym (append-nil (sdus s.waiting))
step_queue s (Calls (Owe report)) h = absurd h
step_queue s (Calls Tick) h = sym (append-nil (sdus s.waiting))
step_queue s (Calls Late) h = late_front (is_overdue s) s.waiting ∙ sym (append-nil (sdus s.waiting))
step_queue s (SetDiscard ttis) h = sym (append-nil (sdus s.waiting))
step_queue s (Restart keys) h = absurd h

run_queue : (s : State) (xs : List Step) → AreOfLife xs
    → (doings s xs).left ++ sdus (run_pdcp_sender xs s).waiting ≡ sdus s.waiting ++ (doings s xs).submitted
run_queue s [] h = sym (append-nil (sdus s.waiting))
run_queue s (x ∷ xs) h =
    append_assoc (leaves s x) (doings (goes s x) xs).left (sdus (run_pdcp_sender xs (goes s x)).waiting)
    ∙ ap (λ l. leaves s x ++ l) (run_queue (goes s x) xs h.1)
    ∙ sym (append_assoc (leaves s x) (sdus (goes s x).waiting) (doings (goes s x) xs).submitted)
    ∙ ap (λ l. l ++ (doings (goes s x) xs).submitted) (step_queue s x h.0)
    ∙ append_assoc (sdus s.waiting) (submits x) (doings (goes s x) xs).submitted

pub moved_queue : (s t : State) (d : Doings) → Moved s t d → d.left ++ sdus t.waiting ≡ sdus s.waiting ++ d.submitted
moved_queue s t d m =
    let here : (doings s m.steps).left ++ sdus (run_pdcp_sender m.steps s).waiting
    ≡ sdus s.waiting ++ (doings s m.steps).submitted = run_queue s m.steps m.life in
    rw (m.did, m.left) here

-- ---- kind and keys stay in a life

pub record AreSame (s t : State) : Type 0 where
  pub kind : t.kind ≡ s.kind
  pub protection : t.protection ≡ s.protection

new_same : (s : State) (ws : List Waits) → AreSame s (took_new ws s)
new_same s [] = record { kind = refl; protection = refl }
new_same s (w ∷ ws) = record { kind = refl; protection = refl }

again_same : (s : State) (ss : List Sent) → AreSame s (took_again ss s)
again_same s [] = new_same s (take (s.bound - s.next) s.waiting)
again_same s (x ∷ xs) = record { kind = refl; protection = refl }

owed_same : (s : State) (o : Option (List ℕ)) → AreSame s (took_owed o s)
owed_same s None = again_same s s.again
owed_same s (Some r) = record { kind = refl; protection = refl }

pub took_same : (s : State) → AreSame s (took s)
unfolding took
took_same s = owed_same s s.owed

report_same : (s : State) (c : Option ℕ) (bitmap : List ℕ) → AreSame s (reported_from c s bitmap)
report_same s None bitmap = record { kind = refl; protection = refl }
report_same s (Some c) bitmap = record { kind = refl; protection = refl }

step_same : (s : State) (x : Step) → IsOfLife x → AreSame s (goes s x)
unfolding submitted confirmed reported after_late
step_same s (Calls (Submit sdu)) h = record { kind = refl; protection = refl }
step_same s (Calls Take) h = took_same s
step_same s (Calls (Confirm place)) h = record { kind = refl; protection = refl }
step_same s (Calls (Report fms bitmap)) h = report_same s (fms_count s.kind s.base fms) bitmap
step_same s (Calls (Owe report)) h = absurd h
step_same s (Calls Tick) h = record { kind = refl; protection = refl }
step_same s (Calls Late) h = record { kind = refl; protection = refl }
step_same s (SetDiscard ttis) h = record { kind = refl; protection = refl }
step_same s (Restart keys) h = absurd h

pub run_same : (s : State) (xs : List Step) → AreOfLife xs → AreSame s (run_pdcp_sender xs s)
run_same s [] h = record { kind = refl; protection = refl }
run_same s (x ∷ xs) h =
    let one = step_same s x h.0 in
    let more = run_same (goes s x) xs h.1 in
    record { kind = more.kind ∙ one.kind; protection = more.protection ∙ one.protection }

pub moved_same : (s t : State) (d : Doings) → Moved s t d → AreSame s t
moved_same s t d m = subst (AreSame s) (sym m.left) (run_same s m.steps m.life)

pub same_pdus : (s t : State) (os : List Offer) → AreSame s t → map (pdu_of t) os ≡ map (pdu_of s) os
same_pdus s t os h =
    ap (λ k. map (λ (o : Offer). (written k t.protection o.count o.text).octets) os) h.kind
    ∙ ap (λ p. map (λ (o : Offer). (written s.kind p o.count o.text).octets) os) h.protection
