-- A take, whichever it is; and the calls that give RLC nothing and confirm nothing.
use Rattle.std.proofs.Common.{◌≡◌, ◌≢◌, ◌<◌, ◌≤◌, ℕ, suc, zero, ◌+◌, ◌-◌, ◌^◌, Bool, true, false, List, [], ◌∷◌, ◌++◌}
use Rattle.std.proofs.Common.{length, take, drop, map, Option, Some, None, slice_get, length-append, subst, refl, ap}
use Rattle.std.proofs.Common.{sym, ◌∙◌, arith}
use Rattle.std.specs.Prelude.{if◌then◌else◌, option_map}
use Rattle.std.proofs.lemmas.Bool.Decides.{nat_tests}
use Rattle.std.proofs.lemmas.List.{append-nil}
use Rattle.pdcp_pdu.specs.declared.PdcpKind.TheVariants.{Am}
use Rattle.pdcp_pdu.specs.Kinds.{is_am}
use Rattle.pdcp_tx_store.specs.declared.given.Sent.{Sent}
use Rattle.pdcp_tx_store.specs.declared.given.Entry.TheVariants.{Data}
use Rattle.pdcp_tx_store.specs.Waiting.{Waits}
use Rattle.pdcp_tx_store.specs.Given.{with_entry}
use Rattle.pdcp_tx.specs.declared.sender.Next.{Next}
use Rattle.pdcp_tx.specs.State.{State, Offer, sent, written, offers, owed_offers, again_offer, new_offers, taking, took}
use Rattle.pdcp_tx.specs.State.{took_owed, took_again, took_new, refusal, submitted, after_late, is_overdue}
use Rattle.pdcp_tx.specs.Runs.{Submit, Take, Tick, Late, Owe}
use Rattle.law_pdcp.specs.OneEnd.Lives.{Step, Calls, goes, takes_first, takes_new, new_of, new_behind, first_sdu}
use Rattle.law_pdcp.proofs.OneEnd.KindStays.{kind_stays}
use Rattle.law_pdcp.proofs.OneEnd.Lives.{Stays, goes_in, end_of}
use Rattle.law_pdcp.proofs.OneEnd.Naming.{NamesKept, step}
use Rattle.law_pdcp.proofs.OneEnd.Thinning.{In, names}
use Rattle.law_pdcp.specs.AmPair.Flow.{Flow, Sends as Sending, SetDiscard, happens, IsReport}
use Rattle.law_pdcp.specs.OneEnd.Given.{nexts_of}
use Rattle.law_pdcp.proofs.AmPair.Opens.{all_of}
use Rattle.law_pdcp.proofs.OneEnd.Submitting.{AreNonempty, accepted, not_empty, queue_push, late_room, late_some}
use Rattle.law_pdcp.proofs.AmPair.Sound.{Owes, IsSound}
use Rattle.law_pdcp.proofs.AmPair.Taking.{without_report, own_sound, without_first, again_sound, with_new, new_sound}

-- ---- what any step keeps

stays_am : (s : State) (bits : ℕ) → s.kind ≡ Am bits → In 0 (names (all_of s)) s.next → Stays s
stays_am s bits am h = subst (λ b. In 0 (names (all_of s)) (end_of b s.next)) (sym (ap is_am am)) h

pub order_after : (s : State) (bits : ℕ) (x : Step) → s.kind ≡ Am bits → In 0 (names (all_of s)) s.next
    → In 0 (names (all_of (goes s x))) (goes s x).next
order_after s bits x am h =
    subst (λ b. In 0 (names (all_of (goes s x))) (end_of b (goes s x).next)) (ap is_am (kind_stays s x ∙ am))
    (goes_in s x (stays_am s bits am h))

pub kept_after : (first : ℕ) (sdus : List (List ℕ)) (s : State) (x : Step) → NamesKept first sdus s
    → NamesKept first (sdus ++ takes_first s x) (goes s x)
kept_after first sdus s x h = (step first sdus s x h).0

-- ---- a take

abbrev pub given_by : Flow → State → List (List ℕ) → List Next → Flow
given_by f s g os = record f { sender = s; sdus = f.sdus ++ g; stream = f.stream ++ os }

by_same : (bits : ℕ) (f : Flow) (s t : State) (g h : List (List ℕ)) (os ps : List Next) → s ≡ t → g ≡ h → os ≡ ps
    → IsSound bits (given_by f t h ps) → IsSound bits (given_by f s g os)
by_same bits f s t g h os ps a b c i =
    subst (λ x. IsSound bits (given_by f x g os)) (sym a)
    (subst (λ x. IsSound bits (given_by f t x os)) (sym b)
    (subst (λ x. IsSound bits (given_by f t h x)) (sym c) i))

-- where nothing is taken for the first time
pub no_new : (bits : ℕ) (f : Flow) (s : State) (os : List Next)
    → IsSound bits (record f { sender = s; stream = f.stream ++ os })
    → IsSound bits (record f { sender = s; sdus = f.sdus ++ []; stream = f.stream ++ os })
no_new bits f s os h =
    subst (λ l. IsSound bits (record f { sender = s; sdus = l; stream = f.stream ++ os })) (sym (append-nil f.sdus)) h

pub none_given : (bits : ℕ) (f : Flow) (s : State) → IsSound bits (record f { sender = s })
    → IsSound bits (record f { sender = s; sdus = f.sdus ++ []; stream = f.stream ++ [] })
none_given bits f s h =
    no_new bits f s [] (subst (λ l. IsSound bits (record f { sender = s; stream = l })) (sym (append-nil f.stream)) h)

kept_as : (bits : ℕ) (f : Flow) (t : State) → took f.sender ≡ t → takes_new f.sender Take ≡ [] → IsSound bits f
    → NamesKept f.first f.sdus t
kept_as bits f t e g h =
    subst (λ s. NamesKept f.first f.sdus s) e (subst (λ l. NamesKept f.first l (took f.sender)) (append-nil f.sdus)
    (subst (λ l. NamesKept f.first (f.sdus ++ l) (took f.sender)) g
    (kept_after f.first f.sdus f.sender (Calls Take) h.sends.kept)))

order_as : (bits : ℕ) (f : Flow) (t : State) → took f.sender ≡ t → IsSound bits f → In 0 (names (all_of t)) t.next
order_as bits f t e h =
    subst (λ s. In 0 (names (all_of s)) s.next) e (order_after f.sender bits (Calls Take) h.sends.am h.sends.order)

-- what is taken
taking_by : (s : State) (o : Option (List ℕ)) (xs : List Sent) (ws : List Waits) → s.owed ≡ o → s.again ≡ xs
    → take (s.bound - s.next) s.waiting ≡ ws
    → taking s ≡ option_map (λ (x : Offer). written s.kind s.protection x.count x.text)
    (slice_get (owed_offers o ++ map again_offer xs ++ new_offers s.next ws) 0)
unfolding taking offers
taking_by s o xs ws a b c =
    ap (λ l. option_map (λ (x : Offer). written s.kind s.protection x.count x.text)
    (slice_get (owed_offers l ++ map again_offer s.again ++ new_offers s.next (take (s.bound - s.next) s.waiting))
    0)) a
    ∙ ap (λ l. option_map (λ (x : Offer). written s.kind s.protection x.count x.text)
    (slice_get (owed_offers o ++ map again_offer l ++ new_offers s.next (take (s.bound - s.next) s.waiting)) 0)) b
    ∙ ap (λ l. option_map (λ (x : Offer). written s.kind s.protection x.count x.text)
    (slice_get (owed_offers o ++ map again_offer xs ++ new_offers s.next l) 0)) c

took_by_owed : (s : State) (o : Option (List ℕ)) → s.owed ≡ o → took s ≡ took_owed o s
unfolding took
took_by_owed s o e = ap (λ l. took_owed l s) e

took_by_again : (s : State) (xs : List Sent) → s.owed ≡ None → s.again ≡ xs → took s ≡ took_again xs s
took_by_again s xs a b = took_by_owed s None a ∙ ap (λ l. took_again l s) b

took_by_new : (s : State) (ws : List Waits) → s.owed ≡ None → s.again ≡ [] → take (s.bound - s.next) s.waiting ≡ ws
    → took s ≡ took_new ws s
took_by_new s ws a b c = took_by_again s [] a b ∙ ap (λ l. took_new l s) c

first_waits : (n : ℕ) (xs : List Waits) (w : Waits) (ws : List Waits) → take n xs ≡ w ∷ ws
    → AreNonempty (map (λ w. w.sdu) xs) → (0 < n) × (0 < length xs) × (w.sdu ≢ [])
first_waits zero xs w ws e h = absurd cc
first_waits (suc n) [] w ws e h = absurd cc
first_waits (suc n) (x ∷ xs) w ws e h = let same : x ≡ w = cc in
    (omega arith, omega arith, subst (λ (y : Waits). y.sdu ≢ []) same h.0)

by_new : (bits : ℕ) (f : Flow) (ws : List Waits) → f.sender.owed ≡ None → f.sender.again ≡ []
    → take (f.sender.bound - f.sender.next) f.sender.waiting ≡ ws → IsSound bits f
    → IsSound bits (happens f (Sending Take))
by_new bits f [] a b c h =
    let s = f.sender in
    let new : takes_new s Take ≡ [] = ap (λ l. new_of l s) a ∙ ap (λ l. new_behind l s) b ∙ ap first_sdu c in
    by_same bits f (took s) s (takes_new s Take) [] (nexts_of (taking s)) [] (took_by_new s [] a b c) new
    (ap nexts_of (taking_by s None [] [] a b c)) (none_given bits f s h)
by_new bits f (w ∷ ws) a b c h =
    let s = f.sender in
    let new : takes_new s Take ≡ w.sdu ∷ [] = ap (λ l. new_of l s) a ∙ ap (λ l. new_behind l s) b ∙ ap first_sdu c in
    let is : took s ≡ with_new s w.sdu = took_by_new s (w ∷ ws) a b c
    ∙ ap (λ (y : Bool). record s {
      waiting = drop 1 s.waiting;
      next = s.next + 1;
      given = if y then with_entry s.given (Data (sent s.next w.sdu false)) else s.given;
    }) (ap is_am h.sends.am) in
    let kept : NamesKept f.first (f.sdus ++ w.sdu ∷ []) (with_new s w.sdu) =
    subst (λ t. NamesKept f.first (f.sdus ++ w.sdu ∷ []) t) is
    (subst (λ l. NamesKept f.first (f.sdus ++ l) (took s)) new (kept_after f.first f.sdus s (Calls Take) h.sends.kept))
    in
    let can = first_waits (s.bound - s.next) s.waiting w ws c h.sends.waits_some in
    by_same bits f (took s) (with_new s w.sdu) (takes_new s Take) (w.sdu ∷ []) (nexts_of (taking s))
    (written s.kind s.protection (Some s.next) w.sdu ∷ []) is new (ap nexts_of (taking_by s None [] (w ∷ ws) a b c))
    (new_sound bits f w.sdu b can.2 can.1 (omega (arith, can.0)) kept (order_as bits f (with_new s w.sdu) is h) h)

by_again : (bits : ℕ) (f : Flow) (xs : List Sent) → f.sender.owed ≡ None → f.sender.again ≡ xs → IsSound bits f
    → IsSound bits (happens f (Sending Take))
by_again bits f [] a b h = by_new bits f (take (f.sender.bound - f.sender.next) f.sender.waiting) a b refl h
by_again bits f (x ∷ xs) a b h =
    let s = f.sender in
    let new : takes_new s Take ≡ [] = ap (λ l. new_of l s) a ∙ ap (λ l. new_behind l s) b in
    let is : took s ≡ without_first s x xs = took_by_again s (x ∷ xs) a b in
    by_same bits f (took s) (without_first s x xs) (takes_new s Take) [] (nexts_of (taking s))
    (written s.kind s.protection (Some x.count) x.octets ∷ []) is new
    (ap nexts_of (taking_by s None (x ∷ xs) (take (s.bound - s.next) s.waiting) a b refl))
    (no_new bits f (without_first s x xs) (written s.kind s.protection (Some x.count) x.octets ∷ [])
    (again_sound bits f x xs b (kept_as bits f (without_first s x xs) is new h)
    (order_as bits f (without_first s x xs) is h) h))

by_owed : (bits : ℕ) (f : Flow) (o : Option (List ℕ)) → f.sender.owed ≡ o → IsSound bits f
    → IsSound bits (happens f (Sending Take))
by_owed bits f None a h = by_again bits f f.sender.again a refl h
by_owed bits f (Some r) a h =
    let s = f.sender in
    let new : takes_new s Take ≡ [] = ap (λ l. new_of l s) a in
    let is : took s ≡ without_report s = took_by_owed s (Some r) a in
    let report : IsReport s.kind r = subst (Owes s.kind) a h.sends.owes in
    by_same bits f (took s) (without_report s) (takes_new s Take) [] (nexts_of (taking s))
    (written s.kind s.protection None r ∷ []) is new
    (ap nexts_of (taking_by s (Some r) s.again (take (s.bound - s.next) s.waiting) a refl refl))
    (no_new bits f (without_report s) (written s.kind s.protection None r ∷ [])
    (own_sound bits f r report (kept_as bits f (without_report s) is new h)
    (order_as bits f (without_report s) is h) h))

pub takes_sound : (bits : ℕ) (f : Flow) → IsSound bits f → IsSound bits (happens f (Sending Take))
takes_sound bits f h = by_owed bits f f.sender.owed refl h

-- ---- calls that give nothing

abbrev quiet : State → List Waits → Option (List ℕ) → Bool → ℕ → Option ℕ → State
quiet s waiting owed reporting clock discard =
    record s { waiting = waiting; owed = owed; reporting = reporting; clock = clock; discard = discard }

quiet_sound : (bits : ℕ) (f : Flow) (waiting : List Waits) (owed : Option (List ℕ)) (reporting : Bool) (clock : ℕ)
    (discard : Option ℕ) → f.sender.next + length waiting ≤ 2 ^ 32 → AreNonempty (map (λ w. w.sdu) waiting)
    → Owes f.sender.kind owed
    → IsSound bits f → IsSound bits (record f { sender = quiet f.sender waiting owed reporting clock discard })
quiet_sound bits f waiting owed reporting clock discard room some owes h = record {
  width = h.width;
  sends = record {
    am = h.sends.am;
    room = room;
    some = h.sends.some;
    waits_some = some;
    owes = owes;
    kept = record { am = h.sends.kept.am; next = h.sends.kept.next; each = h.sends.kept.each };
    order = h.sends.order;
    near = h.sends.near;
    lag = h.sends.lag;
  };
  links = record {
    within = h.links.within;
    order = h.links.order;
    covered = h.links.covered;
    opens = h.links.opens;
    floor = h.links.floor;
    late = h.links.late;
    written = h.links.written;
  };
  receives = h.receives;
  hears_am = h.hears_am;
  key = h.key;
  places = h.places;
  few = h.few;
  passed = h.passed;
  told = h.told;
}

pub submit_sound : (bits : ℕ) (f : Flow) (sdu : List ℕ) → refusal f.sender sdu ≡ None → IsSound bits f
    → IsSound bits (happens f (Sending (Submit sdu)))
unfolding submitted
submit_sound bits f sdu e h =
    let s = f.sender in
    let w : Waits = record { sdu = sdu; born = s.clock } in
    let can = accepted s sdu e in
    let less : s.next + length s.waiting < 2 ^ 32 = grind (arith, nat_tests, can.1, h.sends.room) in
    none_given bits f (submitted s sdu)
    (quiet_sound bits f (s.waiting ++ w ∷ []) s.owed s.reporting s.clock s.discard
    (omega (arith, less, length-append s.waiting (w ∷ [])))
    (queue_push s.waiting w h.sends.waits_some (not_empty sdu can.0)) h.sends.owes h)

pub owe_sound : (bits : ℕ) (f : Flow) (report : List ℕ) → IsReport f.sender.kind report → IsSound bits f
    → IsSound bits (happens f (Sending (Owe report)))
owe_sound bits f report is h =
    none_given bits f (record f.sender { owed = Some report; reporting = true })
    (quiet_sound bits f f.sender.waiting (Some report) true f.sender.clock f.sender.discard h.sends.room
    h.sends.waits_some is h)

pub tick_sound : (bits : ℕ) (f : Flow) → IsSound bits f → IsSound bits (happens f (Sending Tick))
tick_sound bits f h =
    none_given bits f (goes f.sender (Calls Tick))
    (quiet_sound bits f f.sender.waiting f.sender.owed f.sender.reporting (goes f.sender (Calls Tick)).clock
    f.sender.discard h.sends.room h.sends.waits_some h.sends.owes h)

pub late_sound : (bits : ℕ) (f : Flow) → IsSound bits f → IsSound bits (happens f (Sending Late))
unfolding after_late
late_sound bits f h =
    none_given bits f (after_late f.sender)
    (quiet_sound bits f (if is_overdue f.sender then drop 1 f.sender.waiting else f.sender.waiting) f.sender.owed
    f.sender.reporting f.sender.clock f.sender.discard
    (late_room (is_overdue f.sender) f.sender.waiting f.sender.next h.sends.room)
    (late_some (is_overdue f.sender) f.sender.waiting h.sends.waits_some) h.sends.owes h)

pub discard_sound : (bits : ℕ) (f : Flow) (ttis : ℕ) → IsSound bits f → IsSound bits (happens f (SetDiscard ttis))
discard_sound bits f ttis h =
    quiet_sound bits f f.sender.waiting f.sender.owed f.sender.reporting f.sender.clock (Some ttis) h.sends.room
    h.sends.waits_some h.sends.owes h
