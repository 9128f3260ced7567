-- A bearer of acknowledged data between two calls, and what it hands up.
use Rattle.std.proofs.Common.{◌≡◌, ℕ, ◌==◌, if◌then◌else◌, cond, Bool, true, false, unwrap_or, Option, Some, None, List}
use Rattle.std.proofs.Common.{[], ◌∷◌, ◌++◌, append-nil, refl, ap, sym, subst, ◌∙◌}
use Rattle.bearer.specs.declared.flow.Flow.{Flow}
use Rattle.bearer.specs.declared.flow.Flow.TheVariants.{Am}
use Rattle.bearer.specs.Hearing.{arriving, expiry}
use Rattle.bearer.specs.Lives.{stopping}
use Rattle.bearer.specs.Taking.{told}
use Rattle.bearer.specs.Acknowledged.State.{State}
use Rattle.bearer.specs.Acknowledged.Timing.{told_of}
use Rattle.law_bearer.specs.AnyBearer.Calls.{Call, Submit, Take, Arrive, Expire, Tick, SetDiscard, Restart, after, goes}
use Rattle.law_bearer.proofs.AnyBearer.Between.{IsBetween, submits, takes, arrives, expires, ticks_of, discards, moves}
use Rattle.bearer_types.specs.declared.event.Event.{Event}
use Rattle.bearer_types.specs.declared.event.Event.TheVariants.{Take as TakeTold, Report, Send, Wait, Start, Stop}
use Rattle.bearer_types.specs.declared.event.Event.TheVariants.{Expired, Up, Fail, Drop, Integrity, BadMac, BadRlc}
use Rattle.bearer_types.specs.declared.event.Event.TheVariants.{BadPdcp, Discard}
use Rattle.eps_sec.specs.declared.Keys.{Keys}
use Rattle.law_bearer.specs.AmBearer.Deeds.{does_all}
use Rattle.law_bearer.specs.AmBearer.Calls.{deeds_of, tells, up_in, ups_among, IsOfData, IsIdle}
use Rattle.law_bearer.specs.AmBearer.Lives.{restarts}
use Rattle.law_bearer.proofs.AmBearer.Calls.{calls_are_deeds}
use Rattle.law_bearer.proofs.AmBearer.Lives.{restarts_are_deeds}
use Rattle.law_deliver.specs.AmFlow.Pair.{called}
use Rattle.law_deliver.specs.AmFlow.Ups.{up_on, ups_on, tells_in, goes_up_in}
use Rattle.promises.specs.Events.{is_on, told_on}
use Rattle.law_deliver.proofs.AmFlow.Events.{own_told, all_on, stopping_on, ups_over}
use Rattle.law_deliver.proofs.AmFlow.Sending.{is_called}

pub record IsSteady (bits l : ℕ) (b : State) : Type 0 where
  pub data' : IsOfData bits b
  pub idle : IsIdle b
  pub between : IsBetween l (Am b)

-- ---- it stays so

pub between_after : (l : ℕ) (f : Flow) (c : Call) → IsBetween l f → IsBetween l (after f c)
between_after l f (Submit sdu) k = submits l f sdu k
between_after l f (Take share held) k = takes l f share held k
between_after l f (Arrive pdu) k = arrives l f pdu k
between_after l f (Expire clock) k = expires l f clock k
between_after l f Tick k = ticks_of l f k
between_after l f (SetDiscard ttis) k = discards l f ttis k

pub same_bearer : (b d : State) → Am b ≡ Am d → b ≡ d
same_bearer b d q = cc

pub called_steady : (bits l : ℕ) (b : State) (c : Call) → IsSteady bits l b → IsSteady bits l (called b c)
called_steady bits l b c h =
    let one = calls_are_deeds bits b c h.data' h.idle in
    let is : does_all (deeds_of b c) b ≡ called b c =
    same_bearer (does_all (deeds_of b c) b) (called b c) (sym one.left ∙ is_called b c) in
    record {
      data' = subst (IsOfData bits) is one.stays;
      idle = subst IsIdle is one.idle;
      between = subst (IsBetween l) (is_called b c) (between_after l (Am b) c h.between);
    }

pub record RestartsSo (bits l : ℕ) (b : State) (keys : Keys) : Type 0 where
  pub left : goes (Am b) (Restart keys) ≡ Am (restarts b keys)
  pub steady : IsSteady bits l (restarts b keys)

pub restarts_steady : (bits l : ℕ) (b : State) (keys : Keys) → IsSteady bits l b → RestartsSo bits l b keys
restarts_steady bits l b keys h =
    let one = restarts_are_deeds bits b keys h.data' h.idle in
    record {
      left = one.left;
      steady = record {
        data' = one.stays;
        idle = one.idle;
        between = subst (IsBetween l) one.left (moves l (Am b) keys h.between);
      };
    }

-- ---- what it tells is of its own channel

up_if : (here : Bool) (l lcid : ℕ) (sdu : List ℕ) (xs : List Event) → (lcid == l) ≡ here
    → ups_among (cond here (Up lcid sdu ∷ xs) xs) ≡ (if here then sdu ∷ [] else []) ++ ups_among xs
up_if true l lcid sdu xs e = refl
up_if false l lcid sdu xs e = refl

none_if : (here : Bool) (x : Event) (xs : List Event) → up_in x ≡ [] → ups_among (cond here (x ∷ xs) xs) ≡ ups_among xs
none_if true x xs e = ap (λ (up : List (List ℕ)). up ++ ups_among xs) e
none_if false x xs e = refl

first_up : (l : ℕ) (x : Event) (xs : List Event) → ups_among (cond (is_on l x) (x ∷ xs) xs) ≡ up_on l x ++ ups_among xs
first_up l (TakeTold lcid count len) xs = none_if (lcid == l) (TakeTold lcid count len) xs refl
first_up l (Report lcid fms bitmap) xs = none_if (lcid == l) (Report lcid fms bitmap) xs refl
first_up l (Send lcid way sn) xs = none_if (lcid == l) (Send lcid way sn) xs refl
first_up l (Wait lcid why) xs = none_if (lcid == l) (Wait lcid why) xs refl
first_up l (Start lcid clock) xs = none_if (lcid == l) (Start lcid clock) xs refl
first_up l (Stop lcid clock) xs = none_if (lcid == l) (Stop lcid clock) xs refl
first_up l (Expired lcid clock) xs = none_if (lcid == l) (Expired lcid clock) xs refl
first_up l (Up lcid sdu) xs = up_if (lcid == l) l lcid sdu xs refl
first_up l (Fail lcid sn) xs = none_if (lcid == l) (Fail lcid sn) xs refl
first_up l (Drop lcid why) xs = none_if (lcid == l) (Drop lcid why) xs refl
first_up l (Integrity lcid found wanted) xs = none_if (lcid == l) (Integrity lcid found wanted) xs refl
first_up l (BadMac fault) xs = refl
first_up l (BadRlc lcid fault) xs = none_if (lcid == l) (BadRlc lcid fault) xs refl
first_up l (BadPdcp lcid fault) xs = none_if (lcid == l) (BadPdcp lcid fault) xs refl
first_up l (Discard lcid len) xs = none_if (lcid == l) (Discard lcid len) xs refl

ups_told : (l : ℕ) (xs : List Event) → ups_among (told_on l xs) ≡ ups_on l xs
ups_told l [] = refl
ups_told l (x ∷ xs) = first_up l x (told_on l xs) ∙ ap (λ (up : List (List ℕ)). up_on l x ++ up) (ups_told l xs)

pub all_own : (l : ℕ) (xs : List Event) → told_on l xs ≡ xs → ups_among xs ≡ ups_on l xs
all_own l xs e = ap ups_among (sym e) ∙ ups_told l xs

pub expiry_told : (told : Option (List Event)) → told_of told ≡ unwrap_or told []
expiry_told None = refl
expiry_told (Some events) = refl

pub tells_so : (l : ℕ) (b : State) (c : Call) → b.pdcp.lcid ≡ l → tells b c ≡ tells_in l (Am b) c
tells_so l b (Submit sdu) q = refl
tells_so l b (Take share held) q = ap (λ (n : ℕ). told n (Am b) share held) q
tells_so l b (Arrive pdu) q = ap (λ (n : ℕ). arriving n (Am b) pdu) q
tells_so l b (Expire clock) q = expiry_told (expiry (Am b) clock)
tells_so l b Tick q = refl
tells_so l b (SetDiscard ttis) q = refl

pub call_ups : (l : ℕ) (b : State) (c : Call) → IsBetween l (Am b) → ups_among (tells b c) ≡ goes_up_in l (Am b) c
call_ups l b c k =
    let told' = tells_in l (Am b) c in
    let own : told_on l told' ≡ told' = own_told l l (Am b) (Am b) c refl refl k in
    ap ups_among (tells_so l b c k.own) ∙ all_own l told' own
    ∙ ups_over l (Am b) (c ∷ []) told' k (own ∙ sym (append-nil told')) ∙ append-nil (goes_up_in l (Am b) c)

pub end_ups : (l : ℕ) (b : State) → IsBetween l (Am b) → ups_among (stopping (Am b)) ≡ ups_on l (stopping (Am b))
end_ups l b k = all_own l (stopping (Am b)) (all_on l (stopping (Am b)) (stopping_on l (Am b) k))
