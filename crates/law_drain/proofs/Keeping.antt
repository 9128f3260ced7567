-- What holds of each SDU that is submitted to PDCP's sender holds of each that it keeps.
use Rattle.std.proofs.Common.{ℕ, zero, suc, ◌-◌, Bool, true, false, if◌then◌else◌}
use Rattle.std.proofs.Common.{List, [], ◌∷◌, ◌++◌, map, take, drop, slice_get, set, Option, Some, None, nat_lt}
use Rattle.std.specs.List.{AllByRecursion}
use Rattle.pdcp_pdu.specs.Kinds.{is_am}
use Rattle.pdcp_pdu.specs.declared.pdu.PdcpKind.{PdcpKind}
use Rattle.pdcp_pdu.specs.declared.pdu.PdcpKind.TheVariants.{Srb, Um, Am}
use Rattle.pdcp_sec.specs.Protection.{Protection}
use Rattle.pdcp_tx_store.specs.declared.given.Sent.{Sent}
use Rattle.pdcp_tx_store.specs.declared.given.Entry.{Entry}
use Rattle.pdcp_tx_store.specs.declared.given.Entry.TheVariants.{Data, Own, Gone}
use Rattle.pdcp_tx_store.specs.Given.{is_open, trimmed, acked, acked_at, entry_at, heard, tells, untold, from_unacked}
use Rattle.pdcp_tx_store.specs.Given.{data_of}
use Rattle.pdcp_tx_store.specs.Waiting.{Waits}
use Rattle.pdcp_tx.specs.Runs.{Submit, Take, Confirm, Report, Owe, Tick, Late}
use Rattle.pdcp_tx.specs.State.{State, start, submitted, took, took_owed, took_again, took_new, confirmed}
use Rattle.pdcp_tx.specs.State.{reported, reported_from, fms_count, after_late, is_overdue, restarted, waiting_on}
use Rattle.law_pdcp.specs.OneEnd.Lives.{Step, Calls, SetDiscard, Restart, goes, run_pdcp_sender}
use Rattle.law_drain.specs.Left.{AllSent, AllWaiting}

abbrev pub EntryHas : (List ℕ → Type 0) → Entry → Type 0
EntryHas P (Data s) = P s.octets
EntryHas P Own = Unit {0}
EntryHas P Gone = Unit {0}

abbrev pub EntriesHave : (List ℕ → Type 0) → List Entry → Type 0
EntriesHave P [] = Unit {0}
EntriesHave P (e ∷ es) = EntryHas P e × EntriesHave P es

pub record Keeps (P : List ℕ → Type 0) (s : State) : Type 0 where
  pub given : EntriesHave P s.given.entries
  pub again : AllSent P s.again
  pub waiting : AllWaiting P s.waiting

-- a step that submits an SDU brings such a one
abbrev pub Brings : (List ℕ → Type 0) → Step → Type 0
Brings P (Calls (Submit sdu)) = P sdu
Brings P (Calls Take) = Unit {0}
Brings P (Calls (Confirm place)) = Unit {0}
Brings P (Calls (Report fms bitmap)) = Unit {0}
Brings P (Calls (Owe report)) = Unit {0}
Brings P (Calls Tick) = Unit {0}
Brings P (Calls Late) = Unit {0}
Brings P (SetDiscard ttis) = Unit {0}
Brings P (Restart keys) = Unit {0}

module _ (P : List ℕ → Type 0) where
  abbrev HasText : Entry → Type 0
  HasText = EntryHas P

  abbrev AreEntries : List Entry → Type 0
  AreEntries = EntriesHave P

  abbrev AreSent : List Sent → Type 0
  AreSent = AllSent P

  abbrev AreWaiting : List Waits → Type 0
  AreWaiting = AllWaiting P

  -- ---- entries

  trimmed-texts : (es : List Entry) → AreEntries es → AreEntries (trimmed es)
  trimmed-texts [] h = tt
  trimmed-texts (e ∷ es) h = by (is_open e) (trimmed-texts es h.1)
    where
      by : (b : Bool) → AreEntries (trimmed es) → AreEntries (if b then e ∷ es else trimmed es)
      by true rest = h
      by false rest = rest

  more-texts : (es : List Entry) (e : Entry) → AreEntries es → HasText e → AreEntries (es ++ e ∷ [])
  more-texts [] e h t = (t, tt)
  more-texts (x ∷ xs) e h t = (h.0, more-texts xs e h.1 t)

  acked-text : (e : Entry) → HasText e → HasText (acked e)
  acked-text (Data s) t = t
  acked-text Own t = tt
  acked-text Gone t = tt

  set-texts : (es : List Entry) (k : ℕ) (e : Entry) → AreEntries es → HasText e → AreEntries (set es k e)
  set-texts [] k e h t = tt
  set-texts (x ∷ xs) zero e h t = (t, h.1)
  set-texts (x ∷ xs) (suc k) e h t = (h.0, set-texts xs k e h.1 t)

  abbrev MayHaveText : Option Entry → Type 0
  MayHaveText None = Unit {0}
  MayHaveText (Some e) = HasText e

  get-text : (es : List Entry) (k : ℕ) → AreEntries es → MayHaveText (slice_get es k)
  get-text [] k h = tt
  get-text (e ∷ es) zero h = h.0
  get-text (e ∷ es) (suc k) h = get-text es k h.1

  acked-texts : (o : Option Entry) (es : List Entry) (k : ℕ) → AreEntries es → MayHaveText o
      → AreEntries (acked_at o es k)
  acked-texts None es k h t = h
  acked-texts (Some e) es k h t = set-texts es k (acked e) h (acked-text e t)

  heard-texts : (from : ℕ) (bitmap : List ℕ) (es : List Entry) → AreEntries es → AreEntries (map (heard from bitmap) es)
  heard-texts from bitmap [] h = tt
  heard-texts from bitmap (Data s ∷ es) h = (by (tells from bitmap s.count), heard-texts from bitmap es h.1)
    where
      by : (b : Bool) → HasText (if b then Gone else Data s)
      by true = tt
      by false = h.0
  heard-texts from bitmap (Own ∷ es) h = (tt, heard-texts from bitmap es h.1)
  heard-texts from bitmap (Gone ∷ es) h = (tt, heard-texts from bitmap es h.1)

  data-texts : (es : List Entry) (ss : List Sent) → AreEntries es → AreSent ss → AreSent (data_of es ++ ss)
  data-texts [] ss h g = g
  data-texts (Data s ∷ es) ss h g = (h.0, data-texts es ss h.1 g)
  data-texts (Own ∷ es) ss h g = data-texts es ss h.1 g
  data-texts (Gone ∷ es) ss h g = data-texts es ss h.1 g

  unacked-texts : (ss : List Sent) → AreSent ss → AreSent (from_unacked ss)
  unacked-texts [] h = tt
  unacked-texts (s ∷ ss) h = by s.acked (unacked-texts ss h.1)
    where
      by : (b : Bool) → AreSent (from_unacked ss) → AreSent (if b then from_unacked ss else s ∷ ss)
      by true rest = rest
      by false rest = h

  untold-texts : (from : ℕ) (bitmap : List ℕ) (ss : List Sent) → AreSent ss → AreSent (untold from bitmap ss)
  untold-texts from bitmap [] h = tt
  untold-texts from bitmap (s ∷ ss) h = by (tells from bitmap s.count) (untold-texts from bitmap ss h.1)
    where
      by : (b : Bool) → AreSent (untold from bitmap ss)
          → AreSent (if b then untold from bitmap ss else s ∷ untold from bitmap ss)
      by true rest = rest
      by false rest = (h.0, rest)

  -- ---- what waits

  later-waiting : (ws : List Waits) → AreWaiting ws → AreWaiting (drop 1 ws)
  later-waiting [] h = tt
  later-waiting (w ∷ ws) h = h.1

  more-waiting : (ws : List Waits) (w : Waits) → AreWaiting ws → P w.sdu → AreWaiting (ws ++ w ∷ [])
  more-waiting [] w h t = (t, tt)
  more-waiting (x ∷ xs) w h t = (h.0, more-waiting xs w h.1 t)

  pub front-waiting : (n : ℕ) (ws : List Waits) → AreWaiting ws → AreWaiting (take n ws)
  front-waiting zero ws h = tt
  front-waiting (suc n) [] h = tt
  front-waiting (suc n) (w ∷ ws) h = (h.0, front-waiting n ws h.1)

  -- ---- any step

  new-keeps : (ws : List Waits) (s : State) → AreWaiting ws → Keeps P s → Keeps P (took_new ws s)
  new-keeps [] s t h = h
  new-keeps (w ∷ ws) s t h = record {
    given = by (is_am s.kind);
    again = h.again;
    waiting = later-waiting s.waiting h.waiting;
  }
    where
      by : (b : Bool) → AreEntries (if b then record {
        gone = s.given.gone;
        entries = s.given.entries ++ Data (record { count = s.next; octets = w.sdu; acked = false }) ∷ [];
      } else s.given).entries
      by true = more-texts s.given.entries (Data (record { count = s.next; octets = w.sdu; acked = false })) h.given t.0
      by false = h.given

  again-keeps : (ss : List Sent) (s : State) → AreSent ss → Keeps P s → Keeps P (took_again ss s)
  again-keeps [] s t h =
      new-keeps (take (s.bound - s.next) s.waiting) s (front-waiting (s.bound - s.next) s.waiting h.waiting) h
  again-keeps (x ∷ xs) s t h = record {
    given = trimmed-texts (s.given.entries ++ Data x ∷ []) (more-texts s.given.entries (Data x) h.given t.0);
    again = t.1;
    waiting = h.waiting;
  }

  owed-keeps : (o : Option (List ℕ)) (s : State) → Keeps P s → Keeps P (took_owed o s)
  owed-keeps None s h = again-keeps s.again s h.again h
  owed-keeps (Some report) s h = record {
    given = more-texts s.given.entries Own h.given tt;
    again = h.again;
    waiting = h.waiting;
  }

  reported-keeps : (o : Option ℕ) (s : State) (bitmap : List ℕ) → Keeps P s → Keeps P (reported_from o s bitmap)
  reported-keeps None s bitmap h = h
  reported-keeps (Some from) s bitmap h = record {
    given = trimmed-texts (map (heard from bitmap) s.given.entries) (heard-texts from bitmap s.given.entries h.given);
    again = untold-texts from bitmap s.again h.again;
    waiting = h.waiting;
  }

  late-keeps : (b : Bool) (s : State) → Keeps P s
      → Keeps P (record s { waiting = if b then drop 1 s.waiting else s.waiting })
  late-keeps true s h = record { given = h.given; again = h.again; waiting = later-waiting s.waiting h.waiting }
  late-keeps false s h = record { given = h.given; again = h.again; waiting = h.waiting }

  kept-waiting : (kind : PdcpKind) (ws : List Waits) → AreWaiting ws → AreWaiting (waiting_on kind ws)
  kept-waiting Srb ws h = tt
  kept-waiting (Um bits) ws h = h
  kept-waiting (Am bits) ws h = h

  -- at a place that isn't gone
  entry-text : (s : State) (place : ℕ) → Keeps P s → MayHaveText (entry_at s.given place)
  entry-text s place h = by (nat_lt place s.given.gone)
    where
      by : (b : Bool) → MayHaveText (if b then None else slice_get s.given.entries (place - s.given.gone))
      by true = tt
      by false = get-text s.given.entries (place - s.given.gone) h.given

  pub step-keeps : (s : State) (x : Step) → Brings P x → Keeps P s → Keeps P (goes s x)
  unfolding submitted took confirmed reported after_late restarted
  step-keeps s (Calls (Submit sdu)) t h = record {
    given = h.given;
    again = h.again;
    waiting = more-waiting s.waiting _ h.waiting t;
  }
  step-keeps s (Calls Take) t h = owed-keeps s.owed s h
  step-keeps s (Calls (Confirm place)) t h = record {
    given = trimmed-texts (acked_at (entry_at s.given place) s.given.entries (place - s.given.gone))
        (acked-texts (entry_at s.given place) s.given.entries (place - s.given.gone) h.given (entry-text s place h));
    again = h.again;
    waiting = h.waiting;
  }
  step-keeps s (Calls (Report fms bitmap)) t h = reported-keeps (fms_count s.kind s.base fms) s bitmap h
  step-keeps s (Calls (Owe report)) t h = record { given = h.given; again = h.again; waiting = h.waiting }
  step-keeps s (Calls Tick) t h = record { given = h.given; again = h.again; waiting = h.waiting }
  step-keeps s (Calls Late) t h = late-keeps (is_overdue s) s h
  step-keeps s (SetDiscard ttis) t h = record { given = h.given; again = h.again; waiting = h.waiting }
  step-keeps s (Restart keys) t h = record {
    given = tt;
    again = unacked-texts (data_of s.given.entries ++ s.again)
        (data-texts s.given.entries s.again h.given h.again);
    waiting = kept-waiting s.kind s.waiting h.waiting;
  }

  pub run-keeps : (steps : List Step) (s : State) → AllByRecursion (Brings P) steps → Keeps P s
      → Keeps P (run_pdcp_sender steps s)
  run-keeps [] s t h = h
  run-keeps (x ∷ xs) s t h = run-keeps xs (goes s x) t.1 (step-keeps s x t.0 h)

  pub start-keeps : (kind : PdcpKind) (p : Protection) (first : ℕ) → Keeps P (start kind p first)
  unfolding start
  start-keeps kind p first = record { given = tt; again = tt; waiting = tt }
