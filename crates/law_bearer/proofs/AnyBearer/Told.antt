-- In which order a bearer of any kind tells.
use Rattle.std.proofs.Common.{inl, inr, ℕ, ◌-◌, ◌==◌, Bool, true, false, if◌then◌else◌, Option, None, IfSome, List, []}
use Rattle.std.proofs.Common.{◌∷◌, length, refl}
use Rattle.bearer.specs.declared.flow.Flow.{Flow}
use Rattle.bearer.specs.declared.flow.Flow.TheVariants.{Tm, Um, Am}
use Rattle.bearer.specs.Hearing.{arriving, ticking, expiry as flow_expiry}
use Rattle.bearer.specs.Lives.{stopping}
use Rattle.bearer.specs.Taking.{told}
use Rattle.bearer.specs.Transparent.{data_told as tm_data_told}
use Rattle.bearer_types.specs.declared.event.Event.TheVariants as events
use Rattle.bearer.specs.Unacknowledged.Hearing.{arriving as um_arriving}
use Rattle.l2_types.specs.declared.event.Clock.{Clock}
use Rattle.l2_types.specs.declared.event.Clock.TheVariants.{Poll, Reorder, Prohibit}
use Rattle.l2_types.specs.declared.side.Side.{Side}
use Rattle.rlc_pdu.specs.declared.Taken.{Taken}
use Rattle.rlc_pdu.specs.declared.Taken.TheVariants.{Piece, Idle, Small, Shut, Held, Stopped}
use Rattle.rlc_pdu.specs.declared.RlcWhy.TheVariants.{Short}
use Rattle.rlc_pdu.specs.Reading.{umd_at}
use Rattle.l2_types.specs.declared.Waits.{Waits}
use Rattle.l2_types.specs.declared.Waits.TheVariants as waits
use Rattle.bearer_types.specs.declared.BearerConfig.{BearerConfig}
use Rattle.eps_sec.specs.declared.Keys.{Keys}
use Rattle.rlc_um.specs.Transparent.{taken as tm_taken}
use Rattle.law_bearer.specs.AnyBearer.Calls.{Step, reached}
use Rattle.law_bearer.specs.AnyBearer.Order.{is_signalling, IsToldInOrder}
use Rattle.law_words.specs.BearerOrder.{an_up, a_status, a_report, a_take, a_data_pdu, a_wait, in_a_block, of_an_sdu}
use Rattle.law_words.specs.BearerOrder.{of_an_arrived_sdu, of_a_pdu, of_an_expiry, of_discards, in_a_tti, at_the_end}
use Rattle.law_words.specs.Sequences.{just, ◌then◌, ◌or◌, maybe, many}
use Rattle.law_bearer.proofs.AnyBearer.AmHeard.{arriving_in as am_pdu, expiry_in as am_expiry, ticked_in as am_tick}
use Rattle.law_bearer.proofs.AnyBearer.AmHeard.{stopping_in as am_stop}
use Rattle.law_bearer.proofs.AnyBearer.Between.{IsBetween, reached_between}
use Rattle.law_bearer.proofs.AnyBearer.Heard.{um_arrived_in, um_expiry_in, um_ticking_in, um_stopping_in}
use Rattle.law_bearer.proofs.AnyBearer.InBlock.{um_in, am_in}
use Rattle.law_bearer.proofs.AnyBearer.Sequences.{both, none, many_none, many_one}

-- ---- a bearer of any kind

tm_in : (lcid : ℕ) (t : Taken) → in_a_block lcid (tm_data_told lcid t)
tm_in lcid t = record {
  first = [];
  second = tm_data_told lcid t;
  told_are = refl;
  is_first = none (a_status lcid);
  is_second = record {
    first = [];
    second = tm_data_told lcid t;
    told_are = refl;
    is_first = none (a_report lcid);
    is_second = ends_in t;
  };
}
  where
    waits_in : (why : Waits)
        → (many (a_take lcid) then maybe (a_data_pdu lcid or a_wait lcid)) (events.Wait lcid why ∷ [])
    waits_in why = record {
      first = [];
      second = _;
      told_are = refl;
      is_first = many_none (a_take lcid);
      is_second = inr (inr (why, refl));
    }

    ends_in : (t : Taken) → (many (a_take lcid) then maybe (a_data_pdu lcid or a_wait lcid)) (tm_data_told lcid t)
    ends_in (Piece number first polled octets) = record {
      first = events.Take lcid None (length octets) ∷ [];
      second = _;
      told_are = refl;
      is_first = many_one (a_take lcid) (events.Take lcid None (length octets) ∷ []) (None, (length octets, refl));
      is_second = inr (inl (inl refl));
    }
    ends_in Idle = record {
      first = [];
      second = [];
      told_are = refl;
      is_first = many_none (a_take lcid);
      is_second = inl refl;
    }
    ends_in Small = waits_in waits.Small
    ends_in Shut = waits_in waits.Shut
    ends_in Held = waits_in waits.Held
    ends_in Stopped = waits_in waits.Stopped

block_in : (lcid : ℕ) (f : Flow) (share : ℕ) (held : Option ℕ) → IsBetween lcid f
    → in_a_block lcid (told lcid f share held)
unfolding told
block_in lcid (Tm b) share held k = tm_in lcid (tm_taken b (share - 3))
block_in lcid (Um b) share held k = um_in lcid b share held k.own
block_in lcid (Am b) share held k = am_in lcid b share held k.own

tm_pdu : (lcid : ℕ) (b : Bool) (pdu : List ℕ)
    → of_a_pdu lcid (if b then events.BadRlc lcid (record { at = 0; why = Short }) ∷ [] else events.Up lcid pdu ∷ [])
tm_pdu lcid true pdu = inl (record { at = 0; why = Short }, refl)
tm_pdu lcid false pdu =
    let up : of_an_arrived_sdu lcid (events.Up lcid pdu ∷ []) =
    inl (inl (many_one (an_up lcid) (events.Up lcid pdu ∷ []) (pdu, refl))) in
    inr (inl (inr (inr (inr (record {
      first = [];
      second = events.Up lcid pdu ∷ [];
      told_are = refl;
      is_first = none (just (events.Stop lcid Reorder));
      is_second = record {
        first = [];
        second = events.Up lcid pdu ∷ [];
        told_are = refl;
        is_first = none (just (events.Start lcid Reorder));
        is_second = many_one (of_an_arrived_sdu lcid) (events.Up lcid pdu ∷ []) up;
      };
    })))))

pdu_in : (lcid : ℕ) (f : Flow) (pdu : List ℕ) → IsBetween lcid f → of_a_pdu lcid (arriving lcid f pdu)
unfolding arriving um_arriving
pdu_in lcid (Tm b) pdu k = tm_pdu lcid (length pdu == 0) pdu
pdu_in lcid (Um b) pdu k = um_arrived_in lcid (umd_at b.bits pdu) b k.own k.empty
pdu_in lcid (Am b) pdu k = am_pdu lcid b pdu k.own k.empty

expiry_in : (lcid : ℕ) (f : Flow) (clock : Clock) → IsBetween lcid f
    → IfSome (flow_expiry f clock) (of_an_expiry lcid clock)
unfolding flow_expiry
expiry_in lcid (Tm b) clock k = tt
expiry_in lcid (Um b) clock k = um_expiry_in lcid clock b k.own
expiry_in lcid (Am b) clock k = am_expiry lcid clock b k.own

tti_in : (lcid : ℕ) (f : Flow) → IsBetween lcid f → in_a_tti lcid (ticking f)
unfolding ticking
tti_in lcid (Tm b) k =
    let E = λ (clock : Clock). maybe (of_an_expiry lcid clock) in
    let D = maybe (of_discards lcid) in
    both (E Poll) (E Reorder then E Prohibit then D) [] [] (none (of_an_expiry lcid Poll))
    (both (E Reorder) (E Prohibit then D) [] [] (none (of_an_expiry lcid Reorder))
    (both (E Prohibit) D [] [] (none (of_an_expiry lcid Prohibit)) (none (of_discards lcid))))
tti_in lcid (Um b) k = um_ticking_in lcid b k.own
tti_in lcid (Am b) k = am_tick lcid b k.own

stop_in : (lcid : ℕ) (f : Flow) → IsBetween lcid f → at_the_end (is_signalling f) lcid (stopping f)
unfolding stopping
stop_in lcid (Tm b) k = many_none (of_an_sdu lcid)
stop_in lcid (Um b) k = um_stopping_in lcid b k.own
stop_in lcid (Am b) k = am_stop lcid b k.own

pub nothing_told : (lcid : ℕ) → in_a_block lcid []
nothing_told lcid = tm_in lcid Idle

-- ---- the law

pub told_in_order : (lcid : ℕ) (f : Flow) → IsBetween lcid f → IsToldInOrder lcid f
told_in_order lcid f k = record {
  building = λ share held. block_in lcid f share held k;
  receiving = λ pdu. pdu_in lcid f pdu k;
  expiring = λ clock. expiry_in lcid f clock k;
  ticking = tti_in lcid f k;
  ending = stop_in lcid f k;
}

pub tells_in_its_order : (c : BearerConfig) (keys : Keys) (side : Side) (steps : List Step)
    → IsToldInOrder c.channel.lcid (reached c keys side steps)
tells_in_its_order c keys side steps =
    told_in_order c.channel.lcid (reached c keys side steps) (reached_between c keys side steps)
