-- How many SDUs PDCP's sender keeps that it has given: at most as many as there are COUNTs below its next one.
use Rattle.std.proofs.Common.{◌≡◌, ◌≤◌, ℕ, zero, suc, ◌+◌, ◌-◌, Bool, true, false, nat_lt, if◌then◌else◌, List, []}
use Rattle.std.proofs.Common.{◌∷◌, ◌++◌, length, map, take, set, slice_get, Option, Some, None, refl, ap, subst}
use Rattle.std.proofs.Common.{arith, length-append}
use Rattle.pdcp_pdu.specs.Kinds.{is_am}
use Rattle.pdcp_pdu.specs.declared.pdu.PdcpKind.{PdcpKind}
use Rattle.pdcp_pdu.specs.declared.pdu.PdcpKind.TheVariants.{Srb, Um, Am}
use Rattle.pdcp_tx_store.specs.declared.given.Sent.{Sent}
use Rattle.pdcp_tx_store.specs.declared.given.Entry.{Entry}
use Rattle.pdcp_tx_store.specs.declared.given.Entry.TheVariants.{Data, Own, Gone}
use Rattle.pdcp_tx_store.specs.Given.{Given, is_open, trimmed, with_entry, acked, acked_at, entry_at, heard, tells}
use Rattle.pdcp_tx_store.specs.Given.{untold, from_unacked, data_of}
use Rattle.pdcp_tx_store.specs.Waiting.{Waits}
use Rattle.pdcp_tx.specs.Runs.{Submit, Take, Confirm, Report, Owe, Tick, Late}
use Rattle.pdcp_tx.specs.State.{State, submitted, took, took_owed, took_again, took_new, confirmed, reported}
use Rattle.pdcp_tx.specs.State.{reported_from, fms_count, after_late, restarted, next_from}
use Rattle.law_pdcp.specs.OneEnd.Lives.{Step, Calls, SetDiscard, Restart, goes}

-- the SDUs that were given in this life and are kept, and those that are to be given again
abbrev kept : State → ℕ
kept s = length s.again + length (data_of s.given.entries)

-- only an acknowledged data bearer keeps any
abbrev pub HasCounts : State → Type 0
HasCounts s = kept s ≤ (if is_am s.kind then s.next else 0)

-- ---- entries

data-more : (es : List Entry) (s : Sent) → length (data_of (es ++ Data s ∷ [])) ≡ length (data_of es) + 1
data-more [] s = refl
data-more (Data x ∷ es) s = omega (arith, data-more es s)
data-more (Own ∷ es) s = data-more es s
data-more (Gone ∷ es) s = data-more es s

data-own : (es : List Entry) → length (data_of (es ++ Own ∷ [])) ≡ length (data_of es)
data-own [] = refl
data-own (Data x ∷ es) = omega (arith, data-own es)
data-own (Own ∷ es) = data-own es
data-own (Gone ∷ es) = data-own es

data-first : (e : Entry) (es : List Entry) → length (data_of es) ≤ length (data_of (e ∷ es))
data-first (Data s) es = omega arith
data-first Own es = omega arith
data-first Gone es = omega arith

data-trimmed : (es : List Entry) → length (data_of (trimmed es)) ≤ length (data_of es)
data-trimmed [] = omega arith
data-trimmed (e ∷ es) = by (is_open e) (data-trimmed es)
  where
    by : (b : Bool) → length (data_of (trimmed es)) ≤ length (data_of es)
        → length (data_of (if b then e ∷ es else trimmed es)) ≤ length (data_of (e ∷ es))
    by true rest = omega arith
    by false rest = omega (arith, rest, data-first e es)

data-set : (es : List Entry) (k : ℕ) (e : Entry) → slice_get es k ≡ Some e
    → length (data_of (set es k (acked e))) ≤ length (data_of es)
data-set [] k e at = omega arith
data-set (x ∷ es) zero e at =
    let some : Some x ≡ Some e = at in
    let same : x ≡ e = cc in
    subst (λ (y : Entry). length (data_of (acked y ∷ es)) ≤ length (data_of (x ∷ es))) same (own x)
  where
    own : (y : Entry) → length (data_of (acked y ∷ es)) ≤ length (data_of (y ∷ es))
    own (Data s) = omega arith
    own Own = omega arith
    own Gone = omega arith
data-set (Data s ∷ es) (suc k) e at = omega (arith, data-set es k e at)
data-set (Own ∷ es) (suc k) e at = data-set es k e at
data-set (Gone ∷ es) (suc k) e at = data-set es k e at

data-acked : (o : Option Entry) (es : List Entry) (k : ℕ) → ((e : Entry) → o ≡ Some e → slice_get es k ≡ Some e)
    → length (data_of (acked_at o es k)) ≤ length (data_of es)
data-acked None es k at = omega arith
data-acked (Some e) es k at = data-set es k e (at e refl)

entry-is : (g : Given) (place : ℕ) (e : Entry) → entry_at g place ≡ Some e
    → slice_get g.entries (place - g.gone) ≡ Some e
entry-is g place e = by (nat_lt place g.gone)
  where
    by : (b : Bool) → (if b then None else slice_get g.entries (place - g.gone)) ≡ Some e
        → slice_get g.entries (place - g.gone) ≡ Some e
    by true at = let no : None ≡ Some e = at in cc
    by false at = at

data-heard : (from : ℕ) (bitmap : List ℕ) (es : List Entry)
    → length (data_of (map (heard from bitmap) es)) ≤ length (data_of es)
data-heard from bitmap [] = omega arith
data-heard from bitmap (Data s ∷ es) = by (tells from bitmap s.count) (data-heard from bitmap es)
  where
    by : (b : Bool) → length (data_of (map (heard from bitmap) es)) ≤ length (data_of es)
        → length (data_of ((if b then Gone else Data s) ∷ map (heard from bitmap) es)) ≤ length (data_of (Data s ∷ es))
    by true rest = omega (arith, rest)
    by false rest = omega (arith, rest)
data-heard from bitmap (Own ∷ es) = data-heard from bitmap es
data-heard from bitmap (Gone ∷ es) = data-heard from bitmap es

-- ---- what is to be given again

untold-few : (from : ℕ) (bitmap : List ℕ) (ss : List Sent) → length (untold from bitmap ss) ≤ length ss
untold-few from bitmap [] = omega arith
untold-few from bitmap (s ∷ ss) = by (tells from bitmap s.count) (untold-few from bitmap ss)
  where
    by : (b : Bool) → length (untold from bitmap ss) ≤ length ss
        → length (if b then untold from bitmap ss else s ∷ untold from bitmap ss) ≤ length (s ∷ ss)
    by true rest = omega (arith, rest)
    by false rest = omega (arith, rest)

unacked-few : (ss : List Sent) → length (from_unacked ss) ≤ length ss
unacked-few [] = omega arith
unacked-few (s ∷ ss) = by s.acked (unacked-few ss)
  where
    by : (b : Bool) → length (from_unacked ss) ≤ length ss
        → length (if b then from_unacked ss else s ∷ ss) ≤ length (s ∷ ss)
    by true rest = omega (arith, rest)
    by false rest = omega arith

-- ---- any step

new-counts : (ws : List Waits) (s : State) → HasCounts s → HasCounts (took_new ws s)
new-counts [] s h = h
new-counts (w ∷ ws) s h = by (is_am s.kind) h
  where
    by : (b : Bool) → length s.again + length (data_of s.given.entries) ≤ (if b then s.next else 0)
        → length s.again
        + length (data_of (if b
        then with_entry s.given (Data (record { count = s.next; octets = w.sdu; acked = false }))
        else s.given).entries) ≤ (if b then s.next + 1 else 0)
    by true few =
        omega (arith, few, data-more s.given.entries (record { count = s.next; octets = w.sdu; acked = false }))
    by false few = few

again-counts : (ss : List Sent) (s : State) → s.again ≡ ss → HasCounts s → HasCounts (took_again ss s)
again-counts [] s e h = new-counts (take (s.bound - s.next) s.waiting) s h
again-counts (x ∷ xs) s e h =
    let size = ap (λ (ss : List Sent). length ss) e in
    omega (arith, h, size, data-trimmed (s.given.entries ++ Data x ∷ []), data-more s.given.entries x)

owed-counts : (o : Option (List ℕ)) (s : State) → HasCounts s → HasCounts (took_owed o s)
owed-counts None s h = again-counts s.again s refl h
owed-counts (Some pdu) s h = omega (arith, h, data-own s.given.entries)

reported-counts : (o : Option ℕ) (s : State) (bitmap : List ℕ) → HasCounts s → HasCounts (reported_from o s bitmap)
reported-counts None s bitmap h = h
reported-counts (Some from) s bitmap h =
    omega (
      arith,
      h,
      data-trimmed (map (heard from bitmap) s.given.entries),
      data-heard from bitmap s.given.entries,
      untold-few from bitmap s.again,
    )

next-counts : (kind : PdcpKind) (next few : ℕ) → few ≤ (if is_am kind then next else 0)
    → few ≤ (if is_am kind then next_from kind next else 0)
next-counts Srb next few h = h
next-counts (Um bits) next few h = h
next-counts (Am bits) next few h = h

pub step-counts : (s : State) (x : Step) → HasCounts s → HasCounts (goes s x)
unfolding submitted took confirmed reported after_late restarted
step-counts s (Calls (Submit sdu)) h = h
step-counts s (Calls Take) h = owed-counts s.owed s h
step-counts s (Calls (Confirm place)) h =
    omega (
      arith,
      h,
      data-trimmed (acked_at (entry_at s.given place) s.given.entries (place - s.given.gone)),
      data-acked (entry_at s.given place) s.given.entries (place - s.given.gone) (entry-is s.given place),
    )
step-counts s (Calls (Report fms bitmap)) h = reported-counts (fms_count s.kind s.base fms) s bitmap h
step-counts s (Calls (Owe report)) h = h
step-counts s (Calls Tick) h = h
step-counts s (Calls Late) h = h
step-counts s (SetDiscard ttis) h = h
step-counts s (Restart keys) h =
    next-counts s.kind s.next (length (from_unacked (data_of s.given.entries ++ s.again)) + 0)
    (omega (
      arith,
      h,
      unacked-few (data_of s.given.entries ++ s.again),
      length-append (data_of s.given.entries) s.again,
    ))
