-- What a sender writes.
use Rattle.std.proofs.Common.{◌≡◌, ◌≢◌, ◌<◌, ◌≤◌, ℕ, suc, zero, ◌+◌, ◌-◌, ◌^◌, Bool, false, List, [], ◌∷◌, ◌++◌}
use Rattle.std.proofs.Common.{length, map, take, drop, Option, Some, None, slice_get, length-append, ⊎_elim, subst}
use Rattle.std.proofs.Common.{refl, ap, sym, ◌∙◌, arith}
use Rattle.std.specs.Prelude.{if◌then◌else◌, option_map}
use Rattle.std.proofs.lemmas.Bool.Decides.{nat_tests}
use Rattle.std.proofs.lemmas.List.{append-nil}
use Rattle.eps_sec.specs.declared.Keys.{Keys}
use Rattle.pdcp_pdu.specs.Kinds.{is_am}
use Rattle.pdcp_tx_store.specs.declared.given.Entry.TheVariants.{Data}
use Rattle.pdcp_tx_store.specs.Waiting.{Waits}
use Rattle.pdcp_tx_store.specs.Given.{with_entry, from_unacked, data_of}
use Rattle.pdcp_tx.specs.declared.sender.Next.{Next}
use Rattle.pdcp_tx.specs.State.{State, Offer, sent, written, offers, owed_offers, again_offer, new_offers, taking, took}
use Rattle.pdcp_tx.specs.State.{took_owed, took_again, took_new, refusal, submitted, after_late, is_overdue, restarted}
use Rattle.pdcp_tx.specs.State.{kept_again, next_from, waiting_on}
use Rattle.pdcp_tx.specs.Runs.{Submit, Take, Tick, Late}
use Rattle.law_pdcp.specs.OneEnd.Lives.{takes_new, new_of, new_behind, first_sdu}
use Rattle.law_pdcp.proofs.OneEnd.Naming.{get_more, get_behind}
use Rattle.law_pdcp.specs.UmPair.Flow.{Flow, Sends as Sending, SetDiscard, Restart, happens}
use Rattle.law_pdcp.specs.OneEnd.Given.{nexts_of}
use Rattle.law_pdcp.specs.UmPair.Reading.{IsWritten}
use Rattle.law_pdcp.proofs.UmPair.Choice.{get_push, between_more}
use Rattle.law_pdcp.proofs.OneEnd.Submitting.{AreNonempty, accepted, not_empty, queue_push, late_room, late_some}
use Rattle.law_pdcp.proofs.UmPair.Sound.{Writes}

-- ---- calls that give RLC nothing

abbrev quiet : State → List Waits → ℕ → Option ℕ → State
quiet s waiting clock discard = record s { waiting = waiting; clock = clock; discard = discard }

quiet_writes : (bits : ℕ) (f : Flow) (waiting : List Waits) (clock : ℕ) (discard : Option ℕ)
    → f.sender.next + length waiting ≤ 2 ^ 32
    → AreNonempty (map (λ w. w.sdu) waiting)
    → Writes bits f → Writes bits (record f { sender = quiet f.sender waiting clock discard })
quiet_writes bits f waiting clock discard room some h = record {
  sends = record {
    um = h.sends.um;
    owes_none = h.sends.owes_none;
    none_again = h.sends.none_again;
    none_given = h.sends.none_given;
    room = room;
    waits_some = some;
  };
  count = h.count;
  taken = h.taken;
  written = h.written;
  few = h.few;
  order = h.order;
}

gives_none : (bits : ℕ) (f : Flow) (s : State) → Writes bits (record f { sender = s })
    → Writes bits (record f { sender = s; sdus = f.sdus ++ []; stream = f.stream ++ [] })
gives_none bits f s h =
    subst (λ l. Writes bits (record f { sender = s; sdus = l; stream = f.stream ++ [] })) (sym (append-nil f.sdus))
    (subst (λ l. Writes bits (record f { sender = s; stream = l })) (sym (append-nil f.stream)) h)

pub submit_writes : (bits : ℕ) (f : Flow) (sdu : List ℕ) → refusal f.sender sdu ≡ None → Writes bits f
    → Writes bits (happens f (Sending (Submit sdu)))
unfolding submitted
submit_writes bits f sdu e h =
    let s = f.sender in
    let w : Waits = record { sdu = sdu; born = s.clock } in
    let can = accepted s sdu e in
    let less : s.next + length s.waiting < 2 ^ 32 = grind (arith, nat_tests, can.1, h.sends.room) in
    gives_none bits f (submitted s sdu)
    (quiet_writes bits f (s.waiting ++ w ∷ []) s.clock s.discard
    (omega (arith, less, length-append s.waiting (w ∷ [])))
    (queue_push s.waiting w h.sends.waits_some (not_empty sdu can.0)) h)

pub tick_writes : (bits : ℕ) (f : Flow) → Writes bits f → Writes bits (happens f (Sending Tick))
tick_writes bits f h = gives_none bits f (happens f (Sending Tick)).sender
    (quiet_writes bits f f.sender.waiting (happens f (Sending Tick)).sender.clock f.sender.discard h.sends.room
    h.sends.waits_some h)

pub late_writes : (bits : ℕ) (f : Flow) → Writes bits f → Writes bits (happens f (Sending Late))
unfolding after_late
late_writes bits f h = gives_none bits f (after_late f.sender)
    (quiet_writes bits f (if is_overdue f.sender then drop 1 f.sender.waiting else f.sender.waiting) f.sender.clock
    f.sender.discard
    (late_room (is_overdue f.sender) f.sender.waiting f.sender.next h.sends.room)
    (late_some (is_overdue f.sender) f.sender.waiting h.sends.waits_some) h)

pub discard_writes : (bits : ℕ) (f : Flow) (ttis : ℕ) → Writes bits f → Writes bits (happens f (SetDiscard ttis))
discard_writes bits f ttis h =
    quiet_writes bits f f.sender.waiting f.sender.clock (Some ttis) h.sends.room h.sends.waits_some h

-- ---- a take

-- with one more SDU taken
abbrev with_new : State → State
with_new s = record s { waiting = drop 1 s.waiting; next = s.next + 1 }

took_by : (s : State) (ws : List Waits) → s.owed ≡ None → s.again ≡ [] → take (s.bound - s.next) s.waiting ≡ ws
    → took s ≡ took_new ws s
unfolding took
took_by s ws a b c = ap (λ l. took_owed l s) a ∙ ap (λ l. took_again l s) b ∙ ap (λ l. took_new l s) c

took_one : (s : State) (w : Waits) (ws : List Waits) → is_am s.kind ≡ false → took_new (w ∷ ws) s ≡ with_new s
took_one s w ws um =
    ap (λ (y : Bool). record s {
      waiting = drop 1 s.waiting;
      next = s.next + 1;
      given = if y then with_entry s.given (Data (sent s.next w.sdu false)) else s.given;
    }) um

taking_by : (s : State) (ws : List Waits) → s.owed ≡ None → s.again ≡ [] → take (s.bound - s.next) s.waiting ≡ ws
    → taking s ≡ option_map (λ (x : Offer). written s.kind s.protection x.count x.text)
    (slice_get (new_offers s.next ws) 0)
unfolding taking offers
taking_by s ws a b c =
    ap (λ l. option_map (λ (x : Offer). written s.kind s.protection x.count x.text)
    (slice_get (owed_offers l ++ map again_offer s.again ++ new_offers s.next (take (s.bound - s.next) s.waiting))
    0)) a
    ∙ ap (λ l. option_map (λ (x : Offer). written s.kind s.protection x.count x.text)
    (slice_get (map again_offer l ++ new_offers s.next (take (s.bound - s.next) s.waiting)) 0)) b
    ∙ ap (λ l. option_map (λ (x : Offer). written s.kind s.protection x.count x.text)
    (slice_get (new_offers s.next l) 0)) c

new_by : (s : State) (ws : List Waits) → s.owed ≡ None → s.again ≡ [] → take (s.bound - s.next) s.waiting ≡ ws
    → takes_new s Take ≡ first_sdu ws
new_by s ws a b c = ap (λ l. new_of l s) a ∙ ap (λ l. new_behind l s) b ∙ ap first_sdu c

by_same : (P : Flow → Type 0) (f : Flow) (s t : State) (g h : List (List ℕ)) (os ps : List Next) → s ≡ t → g ≡ h
    → os ≡ ps
    → P (record f { sender = t; sdus = f.sdus ++ h; stream = f.stream ++ ps })
    → P (record f { sender = s; sdus = f.sdus ++ g; stream = f.stream ++ os })
by_same P f s t g h os ps a b c i =
    subst (λ x. P (record f { sender = x; sdus = f.sdus ++ g; stream = f.stream ++ os })) (sym a)
    (subst (λ x. P (record f { sender = t; sdus = f.sdus ++ x; stream = f.stream ++ os })) (sym b)
    (subst (λ x. P (record f { sender = t; sdus = f.sdus ++ h; stream = f.stream ++ x })) (sym c) i))

first_waits : (n : ℕ) (xs : List Waits) (w : Waits) (ws : List Waits) → take n xs ≡ w ∷ ws
    → AreNonempty (map (λ w. w.sdu) xs) → (0 < length xs) × (w.sdu ≢ [])
first_waits zero xs w ws e h = absurd cc
first_waits (suc n) [] w ws e h = absurd cc
first_waits (suc n) (x ∷ xs) w ws e h = let same : x ≡ w = cc in
    (omega arith, subst (λ (y : Waits). y.sdu ≢ []) same h.0)

fewer : (ws : List Waits) (n : ℕ) → 0 < length ws → n + length ws ≤ 2 ^ 32 → n + 1 + length (drop 1 ws) ≤ 2 ^ 32
fewer [] n lt h = absurd (omega (arith, lt))
fewer (w ∷ ws) n lt h = omega (arith, h)

without_one : (ws : List Waits) → AreNonempty (map (λ w. w.sdu) ws) → AreNonempty (map (λ w. w.sdu) (drop 1 ws))
without_one [] h = tt
without_one (w ∷ ws) h = h.1

new_written : (bits : ℕ) (f : Flow) (sdu : List ℕ) → sdu ≢ [] → Writes bits f → (k : ℕ) (x : Next)
    → slice_get (f.stream ++ written f.sender.kind f.sender.protection (Some f.sender.next) sdu ∷ []) k ≡ Some x
    → IsWritten f.first f.earlier (f.sdus ++ sdu ∷ []) f.sender.kind f.sender.protection k x
new_written bits f sdu some h k x e =
    let o : Next = written f.sender.kind f.sender.protection (Some f.sender.next) sdu in
    ⊎_elim
    (λ (q : slice_get f.stream k ≡ Some x).
    let old = h.written k x q in
    record {
      sdu = old.sdu;
      some = old.some;
      taken = get_more f.sdus (sdu ∷ []) (f.earlier + k) old.sdu old.taken;
      count = old.count;
      octets = old.octets;
    })
    (λ (q : (k ≡ length f.stream) × (o ≡ x)).
    let here : f.sender.next ≡ f.first + k = omega (arith, h.count, q.0) in
    let new : IsWritten f.first f.earlier (f.sdus ++ sdu ∷ []) f.sender.kind f.sender.protection k o =
    record {
      sdu = sdu;
      some = some;
      taken = get_behind f.sdus (f.earlier + k) sdu (omega (arith, h.taken, q.0));
      count = ap Some here;
      octets = ap (λ n. (written f.sender.kind f.sender.protection (Some n) sdu).octets) here;
    } in
    subst (IsWritten f.first f.earlier (f.sdus ++ sdu ∷ []) f.sender.kind f.sender.protection k) q.1 new)
    (get_push f.stream o k x e)

new_writes : (bits : ℕ) (f : Flow) (sdu : List ℕ) → sdu ≢ [] → 0 < length f.sender.waiting → Writes bits f
    → Writes bits (record f {
      sender = with_new f.sender;
      sdus = f.sdus ++ sdu ∷ [];
      stream = f.stream ++ written f.sender.kind f.sender.protection (Some f.sender.next) sdu ∷ [];
    })
new_writes bits f sdu some there h =
    let o : Next = written f.sender.kind f.sender.protection (Some f.sender.next) sdu in
    record {
      sends = record {
        um = h.sends.um;
        owes_none = h.sends.owes_none;
        none_again = h.sends.none_again;
        none_given = h.sends.none_given;
        room = fewer f.sender.waiting f.sender.next there h.sends.room;
        waits_some = without_one f.sender.waiting h.sends.waits_some;
      };
      count = omega (arith, h.count, length-append f.stream (o ∷ []));
      taken = omega (arith, h.taken, length-append f.stream (o ∷ []), length-append f.sdus (sdu ∷ []));
      written = new_written bits f sdu some h;
      few = omega (arith, h.few, length-append f.stream (o ∷ []));
      order = h.order;
    }

by_first : (bits : ℕ) (f : Flow) (ws : List Waits) → take (f.sender.bound - f.sender.next) f.sender.waiting ≡ ws
    → Writes bits f
    → Writes bits (happens f (Sending Take))
by_first bits f [] c h =
    let s = f.sender in
    by_same (Writes bits) f (took s) s (takes_new s Take) [] (nexts_of (taking s)) []
    (took_by s [] h.sends.owes_none h.sends.none_again c) (new_by s [] h.sends.owes_none h.sends.none_again c)
    (ap nexts_of (taking_by s [] h.sends.owes_none h.sends.none_again c)) (gives_none bits f s h)
by_first bits f (w ∷ ws) c h =
    let s = f.sender in
    let can = first_waits (s.bound - s.next) s.waiting w ws c h.sends.waits_some in
    by_same (Writes bits) f (took s) (with_new s) (takes_new s Take) (w.sdu ∷ []) (nexts_of (taking s))
    (written s.kind s.protection (Some s.next) w.sdu ∷ [])
    (took_by s (w ∷ ws) h.sends.owes_none h.sends.none_again c ∙ took_one s w ws (ap is_am h.sends.um))
    (new_by s (w ∷ ws) h.sends.owes_none h.sends.none_again c)
    (ap nexts_of (taking_by s (w ∷ ws) h.sends.owes_none h.sends.none_again c)) (new_writes bits f w.sdu can.1 can.0 h)

pub take_writes : (bits : ℕ) (f : Flow) → Writes bits f → Writes bits (happens f (Sending Take))
take_writes bits f h = by_first bits f (take (f.sender.bound - f.sender.next) f.sender.waiting) refl h

-- ---- the next life

none_kept : (s : State) → s.given.entries ≡ [] → s.again ≡ [] → kept_again s ≡ []
none_kept s a b = ap (λ l. from_unacked (data_of l ++ s.again)) a ∙ ap from_unacked b

pub restart_writes : (bits : ℕ) (f : Flow) (keys : Keys) → Writes bits f → Writes bits (happens f (Restart keys))
unfolding restarted
restart_writes bits f keys h =
    let s = f.sender in
    let again : kept_again s ≡ [] = none_kept s h.sends.none_given h.sends.none_again in
    let next : next_from s.kind s.next ≡ 0 = ap (λ k. next_from k s.next) h.sends.um in
    let waiting : waiting_on s.kind s.waiting ≡ s.waiting = ap (λ k. waiting_on k s.waiting) h.sends.um in
    let room : 0 + length s.waiting ≤ 2 ^ 32 = omega (arith, h.sends.room) in
    record {
      sends = record {
        um = h.sends.um;
        owes_none = refl;
        none_again = again;
        none_given = refl;
        room = subst (λ n. n + length (waiting_on s.kind s.waiting) ≤ 2 ^ 32) (sym next)
            (subst (λ l. 0 + length l ≤ 2 ^ 32) (sym waiting) room);
        waits_some = subst (λ l. AreNonempty (map (λ w. w.sdu) l)) (sym waiting) h.sends.waits_some;
      };
      count = next;
      taken = omega arith;
      written = λ k x e. absurd cc;
      few = omega arith;
      order = between_more 0 f.handed (f.earlier + f.passed) (length f.sdus + 0) h.order
          (omega (arith, h.taken, h.few));
    }
