-- The end of a life and the beginning of the next, and the first.
use Rattle.std.proofs.Common.{◌≡◌, ℕ, Bool, true, List, [], ◌∷◌, ◌++◌, Some, refl, ap, sym, subst, ◌∙◌}
use Rattle.std.proofs.Common.{inl}
use Rattle.bearer_types.specs.declared.Event.{Event}
use Rattle.bearer_types.specs.declared.BearerConfig.{BearerConfig}
use Rattle.eps_sec.specs.declared.Keys.{Keys}
use Rattle.l2_types.specs.declared.Kind.{Kind}
use Rattle.l2_types.specs.declared.Kind.TheVariants as kinds
use Rattle.l2_types.specs.declared.Side.{Side}
use Rattle.l2_types.specs.declared.Side.TheVariants.{Nb, Ue}
use Rattle.pdcp_pdu.specs.declared.PdcpKind.{PdcpKind}
use Rattle.pdcp_pdu.specs.declared.PdcpKind.TheVariants.{Am as AmKind}
use Rattle.pdcp_pdu.specs.Kinds.{is_am}
use Rattle.pdcp_rx.specs.declared.got.Cause.TheVariants.{Reestablished}
use Rattle.pdcp_rx.specs.State.{State as Receiving, arrived, report, restarted as restarted_receiving}
use Rattle.pdcp_rx.specs.State.{fresh as fresh_receiving}
use Rattle.pdcp_sec.specs.Protection.{Protection, protection_of}
use Rattle.pdcp_tx.specs.State.{restarted as restarted_sending, start as start_sending}
use Rattle.rlc_am_rx.specs.Machine.{finished}
use Rattle.bearer_pdcp.specs.Ends.{Ends, begun, bearer_of, sends, hears}
use Rattle.bearer_pdcp.specs.Hearing.{heard_told, after_hearing}
use Rattle.bearer_pdcp.specs.Lives.{restarted as restarted_pdcp}
use Rattle.bearer.specs.Acknowledged.State.{State, with_new_rlc, fresh as fresh_am}
use Rattle.bearer.specs.Acknowledged.Lives.{Ending, hears_last, ends_with, last_ups, stopped as am_stopped}
use Rattle.bearer.specs.Acknowledged.Lives.{stopping as am_stopping, restarted as am_restarted}
use Rattle.bearer.specs.declared.flow.Flow.{Flow}
use Rattle.bearer.specs.declared.flow.Flow.TheVariants.{Am}
use Rattle.bearer.specs.Bearer.{flow_of}
use Rattle.bearer.specs.Lives.{stopped, stopping, restarted}
use Rattle.law_bearer.specs.AnyBearer.Calls.{Step, Calls, Restart, after, goes, run_bearer, reached}
use Rattle.law_bearer.specs.AmBearer.Deeds.{does_all, all_raised}
use Rattle.law_bearer.specs.AmBearer.Calls.{deeds_of, IsOfData, IsIdle, ups_among}
use Rattle.bearer_types.specs.Sides.{other}
use Rattle.law_bearer.specs.AmBearer.Lives.{closes, closed, restarts, RestartsAs, StandsIdle, AmPdcpBeginAlike}
use Rattle.law_bearer.specs.AmBearer.Lives.{BeginsAs, protection_at, AreProtectedAlike}
use Rattle.law_bearer.proofs.AmBearer.Ups.{ups_then}
use Rattle.law_bearer.proofs.AmBearer.Hearing.{none_ready, closes_one, hearing_ups, arrived_apart}
use Rattle.law_bearer.proofs.AmBearer.Keeping.{arrives_alike}
use Rattle.law_bearer.proofs.AmBearer.Calls.{calls_are_deeds}

-- ---- what RLC can put together comes to PDCP

-- a bearer's PDCP whose receiver has nothing ready
abbrev raised : Ends → Receiving → Ends
raised e r = record e { rx = all_raised r }

record Closes (sdus : List (List ℕ)) (e : Ends) (r : Receiving) (told : List Event) : Type 0 where
  left : (hears_last sdus (record { pdcp = raised e r; events = told })).pdcp ≡ raised e (closes sdus r)
  ups : ups_among (hears_last sdus (record { pdcp = raised e r; events = told })).events ≡ (closes sdus r).ready

one_closes : (sdu : List ℕ) (e : Ends) (r : Receiving) → is_am e.kind ≡ true
    → after_hearing sdu Reestablished (raised e r) ≡ raised e (arrived r sdu Reestablished)
one_closes sdu e r am = closes_one sdu (raised e r) am refl
    ∙ ap (λ (x : Receiving). raised e x) (sym (arrived_apart r sdu Reestablished))

one_told : (sdu : List ℕ) (e : Ends) (r : Receiving) (told : List Event) → is_am e.kind ≡ true
    → ups_among told ≡ r.ready
    → ups_among (told ++ heard_told sdu Reestablished (raised e r)) ≡ (arrived r sdu Reestablished).ready
one_told sdu e r told am q =
    ups_then told (heard_told sdu Reestablished (raised e r))
    ∙ ap (λ l. l ++ ups_among (heard_told sdu Reestablished (raised e r))) q
    ∙ ap (λ l. r.ready ++ l) (hearing_ups sdu Reestablished (raised e r) (inl am) refl)
    ∙ ap (λ (x : Receiving). x.ready) (sym (arrived_apart r sdu Reestablished))

all_close : (sdus : List (List ℕ)) (e : Ends) (r : Receiving) (told : List Event) → is_am e.kind ≡ true
    → ups_among told ≡ r.ready → Closes sdus e r told
all_close [] e r told am q = record { left = refl; ups = q }
all_close (sdu ∷ sdus) e r told am q =
    let more = told ++ heard_told sdu Reestablished (raised e r) in
    let h = all_close sdus e (arrived r sdu Reestablished) more am (one_told sdu e r told am q) in
    record {
      left = ap (λ (x : Ends). (hears_last sdus (record { pdcp = x; events = more })).pdcp) (one_closes sdu e r am)
          ∙ h.left;
      ups = ap (λ (x : Ends). ups_among (hears_last sdus (record { pdcp = x; events = more })).events)
          (one_closes sdu e r am) ∙ h.ups;
    }

record Ended (b : State) : Type 0 where
  left : (last_ups b).pdcp ≡ raised b.pdcp (closed b)
  ups : ups_among (last_ups b).events ≡ (closed b).ready

ends_as : (b : State) → is_am b.pdcp.kind ≡ true → b.pdcp.rx.ready ≡ [] → Ended b
ends_as b am q =
    let h = all_close (finished b.rx) b.pdcp b.pdcp.rx [] am (sym q) in
    let from : last_ups b ≡ hears_last (finished b.rx) (record { pdcp = raised b.pdcp b.pdcp.rx; events = [] }) =
    ap (λ (a : Bool). ends_with a (finished b.rx) (record { pdcp = b.pdcp; events = [] })) am
    ∙ ap (λ (r : Receiving). hears_last (finished b.rx) (record { pdcp = record b.pdcp { rx = r }; events = [] }))
    (sym (none_ready b.pdcp.rx q)) in
    record {
      left = ap (λ (x : Ending). x.pdcp) from ∙ h.left;
      ups = ap (λ (x : Ending). ups_among x.events) from ∙ h.ups;
    }

-- ---- the next life

pdcp_restarts : (e : Ends) (r : Receiving) (keys : Keys) → is_am e.kind ≡ true
    → restarted_pdcp (raised e r) keys ≡ record e {
      tx = record (restarted_sending e.tx keys) { owed = Some (report r); reporting = true };
      rx = all_raised (restarted_receiving r keys);
    }
unfolding restarted_pdcp restarted_receiving report
pdcp_restarts e r keys am = rw am refl

goes_as : (b : State) (keys : Keys) → is_am b.pdcp.kind ≡ true → b.pdcp.rx.ready ≡ []
    → goes (Am b) (Restart keys) ≡ Am (restarts b keys)
unfolding stopped restarted am_stopped am_restarted
goes_as b keys am q =
    ap (λ (e : Ends). Am (with_new_rlc b.tx_config b.rx_config (restarted_pdcp e keys))) (ends_as b am q).left
    ∙ ap (λ (e : Ends). Am (with_new_rlc b.tx_config b.rx_config e)) (pdcp_restarts b.pdcp (closed b) keys am)

ends_told : (b : State) → is_am b.pdcp.kind ≡ true → b.pdcp.rx.ready ≡ []
    → (closed b).ready ≡ ups_among (stopping (Am b))
unfolding stopping am_stopping
ends_told b am q = sym (ends_as b am q).ups

closes_alike : (sdus : List (List ℕ)) (r : Receiving) → ((closes sdus r).kind ≡ r.kind)
    × ((closes sdus r).protection ≡ r.protection)
closes_alike [] r = (refl, refl)
closes_alike (sdu ∷ sdus) r =
    let one = arrives_alike r sdu Reestablished in
    let rest = closes_alike sdus (arrived r sdu Reestablished) in
    (rest.0 ∙ one.kind, rest.1 ∙ one.protection)

restarts_data : (bits : ℕ) (b : State) (keys : Keys) → IsOfData bits b → IsOfData bits (restarts b keys)
unfolding restarted_sending restarted_receiving
restarts_data bits b keys h =
    record {
      kind = h.kind;
      sending = h.sending;
      receiving =
          (closes_alike (finished b.rx) b.pdcp.rx).0 ∙ h.receiving;
    }

pub restarts_are_deeds : (bits : ℕ) (b : State) (keys : Keys) → IsOfData bits b → IsIdle b → RestartsAs bits b keys
restarts_are_deeds bits b keys h idle = record {
  left = goes_as b keys (ap is_am h.kind) idle.raised;
  ups = ends_told b (ap is_am h.kind) idle.raised;
  stays = restarts_data bits b keys h;
  idle = record { heard = refl; raised = refl; confirmed = refl };
}

-- ---- under the same keys

protected_as : (kind other : PdcpKind) (p q : Protection) (keys : Keys) → kind ≡ other → p ≡ q
    → protection_of kind keys p.bearer p.direction ≡ protection_of other keys q.bearer q.direction
protected_as kind other p q keys same key = ap (λ k. protection_of k keys p.bearer p.direction) same
    ∙ ap (λ (x : Protection). protection_of other keys x.bearer x.direction) key

pub restarts_protect_alike : (bits : ℕ) (from to : State) (keys : Keys) → IsOfData bits from → IsOfData bits to
    → AreProtectedAlike from to → AreProtectedAlike (restarts from keys) (restarts to keys)
unfolding restarted_sending restarted_receiving
restarts_protect_alike bits from to keys h k q =
    let c = closes_alike (finished to.rx) to.pdcp.rx in
    protected_as from.pdcp.tx.kind (closed to).kind from.pdcp.tx.protection (closed to).protection keys
    (h.sending ∙ sym k.receiving ∙ sym c.0) (q ∙ sym c.1)

-- ---- the first life

first_is : (kind : Kind) (c : BearerConfig) (keys : Keys) (side : Side) (b : State) → kind ≡ kinds.Am
    → flow_of kind c keys side ≡ Am b → fresh_am c (AmKind c.pdcp_bits) keys side ≡ b
first_is kind c keys side b k q =
    let is : Am (fresh_am c (AmKind c.pdcp_bits) keys side) ≡ Am b = ap (λ x. flow_of x c keys side) (sym k) ∙ q in
    cc

fresh_begins : (c : BearerConfig) (keys : Keys) (side : Side) → BeginsAs c (fresh_am c (AmKind c.pdcp_bits) keys side)
unfolding fresh_am begun start_sending fresh_receiving
fresh_begins c keys side = record {
  tx = refl;
  rx = refl;
  tx_config = refl;
  rx_config = refl;
  stays = record { kind = refl; sending = refl; receiving = refl };
  idle = record { heard = refl; raised = refl; confirmed = refl };
}

pub first_life_begins : (c : BearerConfig) (keys : Keys) (side : Side) (b : State) → c.kind ≡ kinds.Am
    → flow_of c.kind c keys side ≡ Am b → BeginsAs c b
first_life_begins c keys side b k q = subst (BeginsAs c) (first_is c.kind c keys side b k q) (fresh_begins c keys side)

-- ---- through any calls and lives

stands : (bits : ℕ) (f : Flow) (b : State) → f ≡ Am b → IsOfData bits b → IsIdle b → StandsIdle bits f
stands bits f b q h idle = record { bearer = b; is = q; stays = h; idle = idle }

step_stands : (bits : ℕ) (f : Flow) (x : Step) → StandsIdle bits f → StandsIdle bits (goes f x)
step_stands bits f (Calls c) h =
    let one = calls_are_deeds bits h.bearer c h.stays h.idle in
    stands bits (after f c) (does_all (deeds_of h.bearer c) h.bearer) (ap (λ g. after g c) h.is ∙ one.left) one.stays
    one.idle
step_stands bits f (Restart keys) h =
    let one = restarts_are_deeds bits h.bearer keys h.stays h.idle in
    stands bits (goes f (Restart keys)) (restarts h.bearer keys) (ap (λ g. goes g (Restart keys)) h.is ∙ one.left)
    one.stays one.idle

run_stands : (bits : ℕ) (f : Flow) (xs : List Step) → StandsIdle bits f → StandsIdle bits (run_bearer xs f)
run_stands bits f [] h = h
run_stands bits f (x ∷ xs) h = run_stands bits (goes f x) xs (step_stands bits f x h)

pub nothing_is_left_over : (c : BearerConfig) (keys : Keys) (side : Side) (steps : List Step) → c.kind ≡ kinds.Am
    → StandsIdle c.pdcp_bits (reached c keys side steps)
nothing_is_left_over c keys side steps k =
    let b : State = fresh_am c (AmKind c.pdcp_bits) keys side in
    let h = fresh_begins c keys side in
    run_stands c.pdcp_bits (flow_of c.kind c keys side) steps
    (stands c.pdcp_bits (flow_of c.kind c keys side) b (ap (λ x. flow_of x c keys side) k) h.stays h.idle)

-- ---- both ends

-- what an end sends the other hears
heard_as : (side : Side) → hears (other side) ≡ sends side
heard_as Nb = refl
heard_as Ue = refl

fresh_alike : (c : BearerConfig) (keys : Keys) (side : Side)
    → AmPdcpBeginAlike c.pdcp_bits (protection_at c keys side) c.first (fresh_am c (AmKind c.pdcp_bits) keys side)
    (fresh_am c (AmKind c.pdcp_bits) keys (other side))
unfolding fresh_am begun
fresh_alike c keys side = record {
  sender = refl;
  receiver =
      ap (λ direction. fresh_receiving (AmKind c.pdcp_bits)
      (protection_of (AmKind c.pdcp_bits) keys (bearer_of c.channel.lcid) direction) c.first) (heard_as side);
}

pub ends_begin_alike : (c : BearerConfig) (keys : Keys) (side : Side) (near far : State) → c.kind ≡ kinds.Am
    → flow_of c.kind c keys side ≡ Am near → flow_of c.kind c keys (other side) ≡ Am far
    → AmPdcpBeginAlike c.pdcp_bits (protection_at c keys side) c.first near far
ends_begin_alike c keys side near far k p q =
    subst (λ (x : State). AmPdcpBeginAlike c.pdcp_bits (protection_at c keys side) c.first x far)
    (first_is c.kind c keys side near k p)
    (subst (λ (x : State). AmPdcpBeginAlike c.pdcp_bits (protection_at c keys side) c.first
    (fresh_am c (AmKind c.pdcp_bits) keys side) x) (first_is c.kind c keys (other side) far k q)
    (fresh_alike c keys side))
