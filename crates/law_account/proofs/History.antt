-- Along any call what a sender keeps is what the history of its flow says.
use Rattle.std.proofs.Common.{◌≡◌, ◌<◌, ◌≤◌, ℕ, ◌+◌, Bool, true, false, ◌==◌, if◌then◌else◌, List, [], ◌∷◌, length}
use Rattle.std.proofs.Common.{Option, Some, None, refl, ap, sym, subst, ◌∙◌, arith, nat_lt, length-append, take, not}
use Rattle.std.proofs.Common.{◌&&◌}
use Rattle.std.specs.List.{concat}
use Rattle.std.proofs.lemmas.Bool.{ltb-true, ltb-false, and_right}
use Rattle.std.proofs.lemmas.Bool.Decides.{nat_tests}
use Rattle.std.proofs.lemmas.List.{take_all}
use Rattle.l2_num.specs.Timers.{runs}
use Rattle.rlc_pdu.specs.Pdus.{StatusPdu}
use Rattle.rlc_queue.specs.NewPdu.{room, may_follow, elements, rest}
use Rattle.rlc_queue.specs.Waiting.{HaveOctets, total, behind}
use Rattle.rlc_queue.proofs.Lens.{whole, written as new_lens}
use Rattle.rlc_queue.proofs.Steps.{octets-push, octets-behind}
use Rattle.rlc_am_tx_window.specs.Window.{next, offset_of}
use Rattle.rlc_am_tx_window.proofs.CutSteps.{lens-some}
use Rattle.rlc_am_tx.proofs.SendSteps.{first-waits}
use Rattle.rlc_am_tx.specs.declared.turn.Turn.{Turn}
use Rattle.rlc_am_tx.specs.declared.turn.Turn.TheVariants as turns
use Rattle.rlc_am_tx.specs.Machine.{State, turn, waits, again, first_place, number_again, new_slot, new_elements}
use Rattle.rlc_am_tx.specs.Machine.{is_ignored, after_turn, after_status, after_expiry, with_poll, is_wanted}
use Rattle.rlc_am_tx.specs.Machine.{sent_whole, sent_segment, sent_new, ended, read, applied, limit_of, stops}
use Rattle.rlc_am_tx.specs.Machine.{with_recalled, with_owed, expired, recalled_place, expiry_limit, settles}
use Rattle.rlc_am_tx.specs.Machine.{settled_by}
use Rattle.journal_account.specs.declared.entry.StatusEntry.{StatusEntry}
use Rattle.journal_account.specs.FlowAccount.{FlowAccount, account_of, left_to_send}
use Rattle.journal_account.specs.FlowArrivals.{FlowArrivals, landed_in}
use Rattle.journal_account.specs.FlowEvents.{FlowEvent, SduTaken, NumberWritten, OctetsResent, OctetsArrived}
use Rattle.journal_account.specs.FlowEvents.{ReorderStarted, ReorderExpired, StatusHeard, PollExpired, IsHistory}
use Rattle.journal_account.specs.FlowEvents.{next_of}
use Rattle.journal_account.specs.FlowSending.{FlowSending}
use Rattle.journal_account.proofs.Accounts.{accounts_are_true}
use Rattle.law_rlc.specs.AmSender.Run.{Call, Offer, Take, Status, Tick, Expire, Settle, Confirm, after}
use Rattle.law_rlc.proofs.AmSender.Dealing.{taken}
use Rattle.law_rlc.proofs.AmSender.Expiries.{some-append}
use Rattle.law_rlc.proofs.AmSender.Limits.{turn-failed}
use Rattle.law_rlc.proofs.AmSender.Marked.{turn-config, is-part, stretch-some}
use Rattle.law_rlc.proofs.AmSender.Writes.{new-able}
use Rattle.law_account.specs.Accounted.{AreAccounted}
use Rattle.law_account.specs.Heard.{IsHeard}
use Rattle.law_account.specs.History.{turn_told, IsTold, with_told, AreTaken, Follows, OutsetFollows, CallsFollow}
use Rattle.law_account.specs.History.{ArrivalsFollow}
use Rattle.law_account.specs.Limit.{IsLimited}
use Rattle.law_account.specs.Taken.{taken_in}
use Rattle.law_account.proofs.Expired.{expiry_accounted}
use Rattle.law_account.proofs.Heard.{status_accounted}
use Rattle.law_account.proofs.Limit.{status_limited, expiry_limited}
use Rattle.law_account.proofs.Sending.{outset_accounted}
use Rattle.law_account.proofs.Taken.{is_whole, has_octet, turn_accounted, turn_limited}

pub outset_follows : OutsetFollows
outset_follows config = record {
  most_is = refl;
  history = tt;
  window = outset_accounted config;
  limit = record { failed_is = refl; few = λ e k. omega arith };
  queue = record { some = tt; all = refl };
}

-- VT(S)
pub next_is : (most : ℕ) (es : List FlowEvent) (s : State) → Follows most es s → next_of es ≡ next s.window
next_is most es s h =
    let n = (accounts_are_true most es h.history).sending.next in
    omega (arith, n, h.window.base, h.window.length_is)

-- ---- what waits

all_cut : (size count used : ℕ) (sdus : List (List ℕ))
    → length (concat (elements 2 size count used sdus)) + total (rest 2 size count used sdus) ≡ total sdus
all_cut size count used [] = refl
all_cut size count used (x ∷ xs) =
    by (room 2 size count used == 0) (may_follow (room 2 size count used) x) refl
    (all_cut size (count + 1) (used + length x) xs)
  where
    n : ℕ
    n = room 2 size count used

    by : (a b : Bool) → may_follow n x ≡ b
        → length (concat (elements 2 size (count + 1) (used + length x) xs))
        + total (rest 2 size (count + 1) (used + length x) xs) ≡ total xs
        → length (concat (if a then [] else take n x
        ∷ (if b then elements 2 size (count + 1) (used + length x) xs else [])))
        + total (if a then x ∷ xs else if b then rest 2 size (count + 1) (used + length x) xs
        else behind n (x ∷ xs)) ≡ length x + total xs
    by true b e more = omega arith
    by false true e more =
        let le : length x ≤ n = grind (arith, nat_tests) in
        let all = ap (λ (ys : List ℕ). length ys) (take_all n x le) in
        let cut = length-append (take n x) (concat (elements 2 size (count + 1) (used + length x) xs)) in
        omega (arith, all, cut, more)
    by false false e more =
        let left = octets-behind n (x ∷ xs) in
        let cut = length-append (take n x) [] in
        omega (arith, left, cut)

-- ---- what calls leave alone

record Same (s t : State) : Type 0 where
  queue : t.queue ≡ s.queue
  config : t.config ≡ s.config

ended_same : (o : Option ℕ) (b : Bool) (s t : State) → Same s t → Same s (ended o b t)
ended_same (Some sn) b s t h = record { queue = h.queue; config = h.config }
ended_same None true s t h = record { queue = h.queue; config = h.config }
ended_same None false s t h = h

recalled_same : (o : Option ℕ) (s t : State) → Same s t → Same s (with_recalled o t)
recalled_same None s t h = h
recalled_same (Some at) s t h = record { queue = h.queue; config = h.config }

status_same : (s : State) (status : StatusPdu) → Same s (after_status s status)
unfolding after_status
status_same s status = by (is_ignored s status.ack)
  where
    below : ℕ
    below = offset_of s.window.base status.ack

    by : (b : Bool) → Same s (if b then s else applied s below status.nacks)
    by true = record { queue = refl; config = refl }
    by false = ended_same (limit_of s below status.nacks) (stops s below status.nacks) s (read s below status.nacks)
        (record { queue = refl; config = refl })

expiry_same : (s : State) (more : Bool) → Same s (after_expiry s more)
unfolding after_expiry
expiry_same s more = by (runs s.polls.timer)
  where
    by : (b : Bool) → Same s (if b then ended (expiry_limit s more) false (expired s more) else s)
    by false = record { queue = refl; config = refl }
    by true = ended_same (expiry_limit s more) false s (expired s more)
        (recalled_same (recalled_place s more) s (with_owed s) (record { queue = refl; config = refl }))

-- a call that nothing tells
still : (most : ℕ) (es : List FlowEvent) (s t : State) → t.queue ≡ s.queue → t.config ≡ s.config
    → t.window ≡ s.window → t.failed ≡ s.failed → Follows most es s → Follows most es t
still most es s t queue config window failed h = record {
  most_is = ap (λ (c : _). c.max_retx) config ∙ h.most_is;
  history = h.history;
  window = subst (λ (w : _). AreAccounted most w (account_of most es).sending) (sym window) h.window;
  limit = subst (λ (b : Bool). IsLimited b (account_of most es).sending) (sym failed) h.limit;
  queue = subst (λ (q : _). AreTaken (account_of most es) q.sdus) (sym queue) h.queue;
}

settled_follows : (b : Bool) (most : ℕ) (es : List FlowEvent) (s : State) → Follows most es s
    → Follows most es (settled_by b s)
settled_follows true most es s h = still most es s (settled_by true s) refl refl refl refl h
settled_follows false most es s h = h

-- ---- a take

polled_queue : (b : Bool) (s : State) → (with_poll b s).queue ≡ s.queue
polled_queue true s = refl
polled_queue false s = refl

sending_is : (t : Turn) (s : State) (size most : ℕ) (es : List FlowEvent)
    → (account_of most (with_told (turn_told t s size) es)).sending ≡ taken_in t s size (account_of most es).sending
sending_is turns.Whole s size most es = refl
sending_is turns.Part s size most es = refl
sending_is turns.New s size most es = refl
sending_is turns.Idle s size most es = refl
sending_is turns.Stopped s size most es = refl
sending_is turns.Small s size most es = refl
sending_is turns.Shut s size most es = refl
sending_is turns.Held s size most es = refl

-- what a turn finds
record IsAble (t : Turn) (s : State) (size : ℕ) : Type 0 where
  new : t ≡ turns.New → (0 < length s.queue.sdus) × (3 ≤ size)
  whole' : t ≡ turns.Whole → waits s ≡ true
  part : t ≡ turns.Part → (waits s ≡ true) × (5 ≤ size)

new_some : (s : State) (size : ℕ) → HaveOctets s.queue.sdus → (0 < length s.queue.sdus) × (3 ≤ size)
    → 0 < length (new_slot s size).field
new_some s size some able =
    let two = able.1 in
    let lens = lens-some (new_slot s size).lens (new_lens 2 size s.queue.sdus some able.0 (omega (arith, two))) in
    let all = whole (new_elements s size) in omega (arith, lens, all)

again_below : (most : ℕ) (es : List FlowEvent) (s : State) → waits s ≡ true → Follows most es s
    → number_again s < next_of es
again_below most es s w h =
    let lt : first_place s < length s.window.slots = ltb-true (first_place s) (length s.window.slots) w in
    omega (arith, lt, next_is most es s h)

turn_history : (t : Turn) (s : State) (size : ℕ) (es : List FlowEvent) → IsAble t s size
    → Follows s.config.max_retx es s → IsHistory (with_told (turn_told t s size) es)
turn_history turns.Whole s size es able h =
    let w = able.whole' refl in
    let lt : first_place s < length s.window.slots = ltb-true (first_place s) (length s.window.slots) w in
    ((again_below s.config.max_retx es s w h, has_octet (again s) (first-waits s.window.slots lt)), h.history)
turn_history turns.Part s size es able h =
    let p = able.part refl in
    let lt : first_place s < length s.window.slots = ltb-true (first_place s) (length s.window.slots) p.0 in (
      (
        again_below s.config.max_retx es s p.0 h,
        stretch-some (again s) size ((h.window.numbers (first_place s) lt).whole) (first-waits s.window.slots lt) p.1,
      ),
      h.history,
    )
turn_history turns.New s size es able h = (new_some s size h.queue.some (able.new refl), h.history)
turn_history turns.Idle s size es able h = h.history
turn_history turns.Stopped s size es able h = h.history
turn_history turns.Small s size es able h = h.history
turn_history turns.Shut s size es able h = h.history
turn_history turns.Held s size es able h = h.history

turn_queue : (t : Turn) (s : State) (size most : ℕ) (more : Bool) (es : List FlowEvent)
    → AreTaken (account_of most es) s.queue.sdus
    → AreTaken (account_of most (with_told (turn_told t s size) es)) (after_turn t s size more).queue.sdus
unfolding after_turn
turn_queue turns.Whole s size most more es h =
    subst (λ (q : _). AreTaken (account_of most (with_told (turn_told turns.Whole s size) es)) q.sdus)
    (sym (polled_queue (is_wanted (sent_whole s) more) (sent_whole s))) (record { some = h.some; all = h.all })
turn_queue turns.Part s size most more es h =
    subst (λ (q : _). AreTaken (account_of most (with_told (turn_told turns.Part s size) es)) q.sdus)
    (sym (polled_queue (is_wanted (sent_segment s size) more) (sent_segment s size)))
    (record { some = h.some; all = h.all })
turn_queue turns.New s size most more es h =
    subst (λ (q : _). AreTaken (account_of most (with_told (turn_told turns.New s size) es)) q.sdus)
    (sym (polled_queue (is_wanted (sent_new s size) more) (sent_new s size)))
    (record {
      some = (taken size 0 0 false s.queue.sdus h.some (λ e. refl)).rest;
      all = let cut = all_cut size 0 0 s.queue.sdus in let all = h.all in omega (arith, cut, all);
    })
turn_queue turns.Idle s size most more es h = h
turn_queue turns.Stopped s size most more es h = h
turn_queue turns.Small s size most more es h = h
turn_queue turns.Shut s size most more es h = h
turn_queue turns.Held s size most more es h = h

turn_follows : (t : Turn) (s : State) (size : ℕ) (more : Bool) (es : List FlowEvent) → IsAble t s size
    → Follows s.config.max_retx es s
    → Follows s.config.max_retx (with_told (turn_told t s size) es) (after_turn t s size more)
turn_follows t s size more es able h = record {
  most_is = ap (λ (c : _). c.max_retx) (turn-config t s size more);
  history = turn_history t s size es able h;
  window = subst (AreAccounted s.config.max_retx (after_turn t s size more).window)
      (sym (sending_is t s size s.config.max_retx es))
      (turn_accounted t s (account_of s.config.max_retx es).sending size more able.whole' able.part h.window);
  limit = subst (λ (b : Bool). IsLimited b (account_of s.config.max_retx (with_told (turn_told t s size) es)).sending)
      (sym (turn-failed t s size more))
      (subst (IsLimited s.failed) (sym (sending_is t s size s.config.max_retx es))
      (turn_limited t s (account_of s.config.max_retx es).sending size h.limit));
  queue = turn_queue t s size s.config.max_retx more es h.queue;
}

-- ---- a STATUS

ack_known : (s : State) (status : StatusPdu) (ack : ℕ) (entries : List StatusEntry) → IsHeard s status ack entries
    → ack ≤ next s.window
ack_known s status ack entries i = by (nat_lt ack s.window.base) refl
  where
    by : (b : Bool) → nat_lt ack s.window.base ≡ b → ack ≤ next s.window
    by true e = omega (arith, ltb-true ack s.window.base e)
    by false e =
        let high : s.window.base ≤ ack = ltb-false ack s.window.base e in
        let within = ltb-false (length s.window.slots) (offset_of s.window.base status.ack) (i.ignored ∙ e) in
        omega (arith, within, i.ack_is high)

status_follows : (s : State) (status : StatusPdu) (ack : ℕ) (entries : List StatusEntry) (es : List FlowEvent)
    → IsHeard s status ack entries → Follows s.config.max_retx es s
    → Follows s.config.max_retx (StatusHeard ack entries ∷ es) (after_status s status)
status_follows s status ack entries es i h =
    let f : FlowSending = (account_of s.config.max_retx es).sending in
    let same = status_same s status in
    let known = ack_known s status ack entries i in
    record {
      most_is = ap (λ (c : _). c.max_retx) same.config;
      history = (omega (arith, known, next_is s.config.max_retx es s h), h.history);
      window = status_accounted s f status ack entries i h.window;
      limit = (status_limited s f status ack entries i h.window h.limit).kept;
      queue = subst (λ (q : _). AreTaken (account_of s.config.max_retx (StatusHeard ack entries ∷ es)) q.sdus)
          (sym same.queue) (record { some = h.queue.some; all = h.queue.all });
    }

-- ---- an expiry

-- whether something is left
pub left_is : (more : Bool) (a : FlowAccount) (sdus : List (List ℕ)) → AreTaken a sdus
    → not (left_to_send more a) ≡ ((length sdus == 0) && not more)
left_is true a sdus h = sym (and_right (length sdus == 0) false refl)
left_is false a [] h = let all = h.all in grind (arith, nat_tests)
left_is false a (x ∷ xs) h = let all = h.all in let some = h.some.0 in grind (arith, nat_tests)

expiry_follows : (s : State) (more : Bool) (es : List FlowEvent) → runs s.polls.timer ≡ true
    → Follows s.config.max_retx es s
    → Follows s.config.max_retx (PollExpired more ∷ es) (after_expiry s more)
expiry_follows s more es on h =
    let a : FlowAccount = account_of s.config.max_retx es in
    let left = left_is more a s.queue.sdus h.queue in
    let same = expiry_same s more in
    record {
      most_is = ap (λ (c : _). c.max_retx) same.config;
      history = (tt, h.history);
      window = expiry_accounted s a.sending more (left_to_send more a) on left h.window;
      limit = (expiry_limited s a.sending more (left_to_send more a) on left h.window h.limit).kept;
      queue = subst (λ (q : _). AreTaken (account_of s.config.max_retx (PollExpired more ∷ es)) q.sdus)
          (sym same.queue) (record { some = h.queue.some; all = h.queue.all });
    }

idle_expiry : (s : State) (more : Bool) → runs s.polls.timer ≡ false → after_expiry s more ≡ s
unfolding after_expiry
idle_expiry s more off = rw off refl

-- ---- any call

abbrev Goes : List FlowEvent → State → Call → Option FlowEvent → Type 0
Goes es s c o = Follows s.config.max_retx (with_told o es) (after s c)

goes_on : (es : List FlowEvent) (s : State) (c : Call) (o : Option FlowEvent) → IsTold s c o
    → Follows s.config.max_retx es s → Goes es s c o
goes_on es s (Offer sdu) o told h = subst (Goes es s (Offer sdu)) (sym told.1) (record {
  most_is = refl;
  history = (tt, h.history);
  window = h.window;
  limit = h.limit;
  queue = record {
    some = some-append s.queue.sdus sdu h.queue.some told.0;
    all = let more = octets-push s.queue.sdus sdu in let all = h.queue.all in omega (arith, more, all);
  };
})
goes_on es s (Take size held more) o told h =
    subst (Goes es s (Take size held more)) (sym told)
    (turn_follows (turn s size held more) s size more es
    (record {
      new = new-able s size held more;
      whole' = is_whole s size held more;
      part = is-part s size held more;
    }) h)
goes_on es s (Status status) o told h =
    subst (Goes es s (Status status)) (sym told.3)
    (status_follows s status told.0 told.1 es told.2 h)
goes_on es s Tick o told h =
    subst (Goes es s Tick) (sym told) (still s.config.max_retx es s (after s Tick) refl refl refl refl h)
goes_on es s (Expire more) o told h = subst (Goes es s (Expire more)) (sym told) (by (runs s.polls.timer) refl)
  where
    by : (b : Bool) → runs s.polls.timer ≡ b → Goes es s (Expire more) (if b then Some (PollExpired more) else None)
    by true e = expiry_follows s more es e h
    by false e = subst (Follows s.config.max_retx es) (sym (idle_expiry s more e)) h
goes_on es s (Settle more) o told h =
    subst (Goes es s (Settle more)) (sym told) (settled_follows (settles s more) s.config.max_retx es s h)
goes_on es s Confirm o told h =
    subst (Goes es s Confirm) (sym told) (still s.config.max_retx es s (after s Confirm) refl refl refl refl h)

pub calls_follow : CallsFollow
calls_follow most es s c o told h =
    subst (λ (m : ℕ). Follows m es s → Follows m (with_told o es) (after s c)) h.most_is (goes_on es s c o told) h

-- ---- what happens at the receiver

landed_written : (b : Bool) (n from to : ℕ) (a : FlowArrivals) → (landed_in b n from to a).written ≡ a.written
landed_written true n from to a = refl
landed_written false n from to a = refl

pub arrivals_follow : ArrivalsFollow
arrivals_follow most es s (OctetsArrived n from to) own possible h =
    let a : FlowAccount = account_of most es in
    let same = landed_written (nat_lt n a.arrivals.front) n from to a.arrivals in
    let all = h.queue.all in
    record {
      most_is = h.most_is;
      history = (possible, h.history);
      window = h.window;
      limit = h.limit;
      queue = record { some = h.queue.some; all = omega (arith, same, all) };
    }
arrivals_follow most es s ReorderStarted own possible h = record {
  most_is = h.most_is;
  history = (possible, h.history);
  window = h.window;
  limit = h.limit;
  queue = record { some = h.queue.some; all = h.queue.all };
}
arrivals_follow most es s ReorderExpired own possible h = record {
  most_is = h.most_is;
  history = (possible, h.history);
  window = h.window;
  limit = h.limit;
  queue = record { some = h.queue.some; all = h.queue.all };
}
arrivals_follow most es s (SduTaken size) own possible h = absurd own
arrivals_follow most es s (NumberWritten size) own possible h = absurd own
arrivals_follow most es s (OctetsResent n from to) own possible h = absurd own
arrivals_follow most es s (StatusHeard ack entries) own possible h = absurd own
arrivals_follow most es s (PollExpired more) own possible h = absurd own
