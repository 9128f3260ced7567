-- Both directions from the end that acts: what it sends on goes out, what it hears comes in.
use Rattle.std.specs.Prelude.{◌≡◌, ℕ, List, []}
use Rattle.law_rlc.specs.AmPair.Flow.{sender}
use Rattle.law_words.specs.Arrivals.{AccountEntry}
use Rattle.law_bearer.specs.AmBearer.Calls.{IsOfData, IsIdle}
use Rattle.law_deliver.specs.AmFlow.Pair.{BearerEnd, Pair}
use Rattle.law_deliver.proofs.AmDelivery.Joined.{Way, IsWay, Joins, Reports, JoinedPair, rlc}
use Rattle.law_deliver.proofs.AmDelivery.Lasting.{Lasts, confirmed_as_heard, lasts_so}
use Rattle.law_deliver.proofs.AmDelivery.Promises.{GoesOn, goes_not}

-- an end and the other, with the way from it and the way to it
pub record JoinedEnds (bits : ℕ) (out inn : Way) (e o : BearerEnd) : Type 0 where
  pub out_is : IsWay out
  pub inn_is : IsWay inn
  pub out_bits : out.bits ≡ bits
  pub inn_bits : inn.bits ≡ bits
  pub out_joins : Joins out e o
  pub inn_joins : Joins inn o e
  pub out_reports : Reports out inn
  pub inn_reports : Reports inn out
  pub of_data : IsOfData bits e.bearer
  pub other_of_data : IsOfData bits o.bearer
  pub idle : IsIdle e.bearer
  pub other_idle : IsIdle o.bearer

-- both ends as an end has acted: it took these SDUs for the first time, and these went up there; so much is told of
-- what it sent and heard; its RLC was given these, handed these up and confirmed
-- what it heard of
pub record EndsGoOn (bits : ℕ) (out inn : Way) (e o : BearerEnd) (news ups : List (List ℕ))
    (said heard : List AccountEntry) (given raised : List (List ℕ)) : Type 0 where
  pub out_after : Way
  pub inn_after : Way
  pub joined : JoinedEnds bits out_after inn_after e o
  pub out_goes : GoesOn out out_after news [] said
  pub inn_goes : GoesOn inn inn_after [] ups heard
  pub out_lasts : Lasts out out_after given [] (confirmed_as_heard heard (sender (rlc out)).state)
  pub inn_lasts : Lasts inn inn_after [] raised []

pub stays_joined : (bits : ℕ) (out inn : Way) (e o : BearerEnd) → JoinedEnds bits out inn e o
    → EndsGoOn bits out inn e o [] [] [] [] [] []
stays_joined bits out inn e o h = record {
  out_after = out;
  inn_after = inn;
  joined = h;
  out_goes = goes_not out;
  inn_goes = goes_not inn;
  out_lasts = lasts_so out;
  inn_lasts = lasts_so inn;
}

-- ---- a pair, from each end

pub near_ends : (bits : ℕ) (down up : Way) (p : Pair) → JoinedPair bits down up p → JoinedEnds bits down up p.near p.far
near_ends bits down up p h = record {
  out_is = h.down_is;
  inn_is = h.up_is;
  out_bits = h.down_bits;
  inn_bits = h.up_bits;
  out_joins = h.down_joins;
  inn_joins = h.up_joins;
  out_reports = h.down_reports;
  inn_reports = h.up_reports;
  of_data = h.near_data;
  other_of_data = h.far_data;
  idle = h.near_idle;
  other_idle = h.far_idle;
}

pub far_ends : (bits : ℕ) (down up : Way) (p : Pair) → JoinedPair bits down up p → JoinedEnds bits up down p.far p.near
far_ends bits down up p h = record {
  out_is = h.up_is;
  inn_is = h.down_is;
  out_bits = h.up_bits;
  inn_bits = h.down_bits;
  out_joins = h.up_joins;
  inn_joins = h.down_joins;
  out_reports = h.up_reports;
  inn_reports = h.down_reports;
  of_data = h.far_data;
  other_of_data = h.near_data;
  idle = h.far_idle;
  other_idle = h.near_idle;
}

pub from_near : (bits : ℕ) (down up : Way) (p : Pair) → JoinedEnds bits down up p.near p.far → JoinedPair bits down up p
from_near bits down up p h = record {
  down_is = h.out_is;
  up_is = h.inn_is;
  down_bits = h.out_bits;
  up_bits = h.inn_bits;
  down_joins = h.out_joins;
  up_joins = h.inn_joins;
  down_reports = h.out_reports;
  up_reports = h.inn_reports;
  near_data = h.of_data;
  far_data = h.other_of_data;
  near_idle = h.idle;
  far_idle = h.other_idle;
}

pub from_far : (bits : ℕ) (down up : Way) (p : Pair) → JoinedEnds bits up down p.far p.near → JoinedPair bits down up p
from_far bits down up p h = record {
  down_is = h.inn_is;
  up_is = h.out_is;
  down_bits = h.inn_bits;
  up_bits = h.out_bits;
  down_joins = h.inn_joins;
  up_joins = h.out_joins;
  down_reports = h.inn_reports;
  up_reports = h.out_reports;
  near_data = h.other_of_data;
  far_data = h.of_data;
  near_idle = h.other_idle;
  far_idle = h.idle;
}
