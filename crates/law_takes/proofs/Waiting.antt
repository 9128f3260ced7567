-- Both sides begin alike; SDUs that wait.
use Rattle.std.proofs.Common.{◌≡◌, ℕ, ◌+◌, Bool, true, false, if◌then◌else◌, List, [], ◌∷◌, ◌++◌, map, drop, refl}
use Rattle.std.proofs.Common.{ap, ◌∙◌, arith, ◌-◌, ◌^◌, min, Option, Some}
use Rattle.pdcp_tx_store.specs.Waiting.{Waits}
use Rattle.pdcp_tx.specs.State.{State, start, submitted, is_overdue, after_late}
use Rattle.journal_takes.specs.FlowTakes.{FlowTakes}
use Rattle.law_takes.specs.Accounted.{IsSettled, IsAccounted}
use Rattle.law_takes.specs.Laws.{SendersBegin, SubmitsAreAccounted, DiscardsAreAccounted, discarded_if}

pub senders_begin : SendersBegin
unfolding start
senders_begin bits first p = record {
  am = refl;
  width = refl;
  next = refl;
  base = refl;
  bound = refl;
  waiting = refl;
  due = refl;
  reporting = refl;
  again = refl;
  kept = refl;
  given = omega arith;
  account = record {
    order = record {
      from_low = omega arith;
      from_at = omega arith;
      begun = omega arith;
      low = omega arith;
      at = omega arith;
      within = omega arith;
      sdus = omega arith;
      taken = λ count le. refl;
      reported = λ count le e. e;
    };
    low_open = refl;
    at_open = refl;
  };
}

-- ---- what waits changes on both sides

abbrev pub sdus : List Waits → List (List ℕ)
sdus ws = map (λ w. w.sdu) ws

-- SDUs that wait, and a report that is due, settle nothing else
pub settled_as : (t : FlowTakes) (xs : List (List ℕ)) (due : Bool) → IsSettled t
    → IsSettled (record t { waiting = xs; due = due })
settled_as t xs due h = record {
  order = record {
    from_low = h.order.from_low;
    from_at = h.order.from_at;
    begun = h.order.begun;
    low = h.order.low;
    at = h.order.at;
    within = h.order.within;
    sdus = h.order.sdus;
    taken = h.order.taken;
    reported = h.order.reported;
  };
  low_open = h.low_open;
  at_open = h.at_open;
}

waits : (s : State) (t : FlowTakes) (ws : List Waits) (xs : List (List ℕ)) (clock : ℕ) (discard : Option ℕ)
    → sdus ws ≡ xs → IsAccounted s t
    → IsAccounted (record s { waiting = ws; clock = clock; discard = discard }) (record t { waiting = xs })
waits s t ws xs clock discard e h = record {
  am = h.am;
  width = h.width;
  next = h.next;
  base = h.base;
  bound = h.bound;
  waiting = e;
  due = h.due;
  reporting = h.reporting;
  again = h.again;
  kept = h.kept;
  given = h.given;
  account = settled_as t xs t.due h.account;
}

one-more : (ws : List Waits) (w : Waits) → sdus (ws ++ w ∷ []) ≡ sdus ws ++ w.sdu ∷ []
one-more [] w = refl
one-more (x ∷ xs) w = ap (λ (l : List (List ℕ)). x.sdu ∷ l) (one-more xs w)

pub submits_are_accounted : SubmitsAreAccounted
unfolding submitted
submits_are_accounted s t sdu h =
    waits s t (s.waiting ++ record { sdu = sdu; born = s.clock } ∷ []) (t.waiting ++ sdu ∷ []) s.clock s.discard
    (one-more s.waiting (record { sdu = sdu; born = s.clock })
    ∙ ap (λ (l : List (List ℕ)). l ++ sdu ∷ []) h.waiting) h

pub one-less : (ws : List Waits) → sdus (drop 1 ws) ≡ drop 1 (sdus ws)
one-less [] = refl
one-less (w ∷ ws) = refl

discards : (s : State) (t : FlowTakes) (late : Bool) → IsAccounted s t
    → IsAccounted (record s { waiting = if late then drop 1 s.waiting else s.waiting }) (discarded_if late t)
discards s t true h =
    waits s t (drop 1 s.waiting) (drop 1 t.waiting) s.clock s.discard (one-less s.waiting ∙ ap (drop 1) h.waiting) h
discards s t false h = waits s t s.waiting t.waiting s.clock s.discard h.waiting h

pub discards_are_accounted : DiscardsAreAccounted
unfolding after_late
discards_are_accounted s t h = record {
  ticks = waits s t s.waiting t.waiting (min (s.clock + 1) (2 ^ 64 - 1)) s.discard h.waiting h;
  timer = λ ttis. waits s t s.waiting t.waiting s.clock (Some ttis) h.waiting h;
  discards = discards s t (is_overdue s) h;
}
