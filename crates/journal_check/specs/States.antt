-- What is kept of a journal's lines and records so far, for the rules of the next
-- (docs/laws/PROGRAM.md).
use Rattle.std.specs.Prelude.{ℕ, ◌+◌, ◌<◌, Bool, true, false, not, ◌||◌, ◌&&◌, nat_lt, nat_le}
use Rattle.std.specs.Prelude.{if◌then◌else◌, List, [], replicate, slice_index_or, slice_set}
use Rattle.std.specs.Prelude.{Option, None, Some, is_some}
use Rattle.std.specs.BTreeMap.{is_at}
use Rattle.std.specs.BTreeSet.{insert_key}
use Rattle.std.specs.Cmp.Lexicographic.{slice_cmp}
use Rattle.std.specs.List.{list_any}
use Rattle.std.specs.Ordering.{nat_cmp}
use Rattle.std.specs.Str.{bytes_eq}
use Rattle.air_record.specs.declared.line.Line.{Line}
use Rattle.air_record.specs.declared.line.Line.TheVariants as lines
use Rattle.air_record.specs.declared.record.Record.{Record}
use Rattle.air_record.specs.declared.record.Record.TheVariants as records
use Rattle.eps_sec.specs.declared.Key.{Key}
use Rattle.promises.specs.Delivery.{forges}
use Rattle.journal_check.specs.declared.fault.CheckWhy.{CheckWhy}
use Rattle.journal_check.specs.declared.fault.CheckWhy.TheVariants.{Forged, Order, Rules}
use Rattle.promises.specs.LineRules.{is_tm, is_fitting}

-- ---- lines

pub record LinesState : Type 0 where
  -- every line so far configures
  pub early : Bool
  -- there was a line of this kind
  pub visits : Bool
  pub reports : Bool
  pub keyed : Bool
  pub listens : Bool
  -- the test loop is on
  pub looping : Bool
  -- by LCID, whether there is a bearer, and whether its discard timers are set
  pub bearers : List Bool
  pub timers : List Bool
  -- the keys so far, in ascending order
  pub given : List (List ℕ)

unfoldable pub no_lines : LinesState
no_lines = record {
  early = true;
  visits = false;
  reports = false;
  keyed = false;
  listens = false;
  looping = false;
  bearers = replicate 256 false;
  timers = replicate 256 false;
  given = [];
}

abbrev pub is_set : ℕ → List Bool → Bool
is_set lcid places = slice_index_or places lcid false

abbrev pub is_given : List ℕ → List (List ℕ) → Bool
is_given key given = list_any (is_at (slice_cmp nat_cmp key)) given

abbrev pub with_key : List ℕ → List (List ℕ) → List (List ℕ)
with_key key given = insert_key (slice_cmp nat_cmp) given key

abbrev pub with_keys : Key → Key → Key → List (List ℕ) → List (List ℕ)
with_keys user rrc integrity given =
    with_key user.octets (with_key rrc.octets (with_key integrity.octets given))

abbrev pub are_equal : Key → Key → Bool
are_equal a b = bytes_eq a.octets b.octets

-- three keys that weren't given, and differ
abbrev pub are_ungiven : Key → Key → Key → List (List ℕ) → Bool
are_ungiven user rrc integrity given =
    not (are_equal user rrc || (are_equal user integrity || is_given user.octets given))
    && (not (are_equal rrc integrity || is_given rrc.octets given)
    && not (is_given integrity.octets given))

-- a line may follow; none so far forges a block
unfoldable pub admits : LinesState → Line → Bool
admits s (lines.Harq visits) = s.early && not s.visits
admits s lines.Bsr = s.early && not s.reports
admits s (lines.Keys keys) =
    s.early && (not s.keyed && are_ungiven keys.user keys.rrc keys.integrity s.given)
admits s (lines.Bearer config options) =
    s.early && (not (is_set config.channel.lcid s.bearers) && (is_tm config.kind || s.keyed))
admits s (lines.Discard lcid ttis) =
    s.early && (is_set lcid s.bearers && (nat_le 3 lcid && not (is_set lcid s.timers)))
admits s (lines.Drx config) = s.early && (not s.listens && is_fitting config)
admits s (lines.Submit side lcid octets) = is_set lcid s.bearers
admits s (lines.Expire side lcid clock) = is_set lcid s.bearers
admits s (lines.Handover user rrc integrity) = s.keyed && are_ungiven user rrc integrity s.given
admits s (lines.Drain grant) = nat_le 200 grant && not s.looping
admits s line = true

-- what is kept behind a line
unfoldable pub behind_line : Line → LinesState → LinesState
behind_line (lines.Harq visits) s = record s { visits = true }
behind_line lines.Bsr s = record s { reports = true }
behind_line (lines.Keys keys) s =
    record s { keyed = true; given = with_keys keys.user keys.rrc keys.integrity s.given }
behind_line (lines.Bearer config options) s =
    record s { bearers = slice_set s.bearers config.channel.lcid true }
behind_line (lines.Discard lcid ttis) s = record s { timers = slice_set s.timers lcid true }
behind_line (lines.Drx config) s = record s { listens = true }
behind_line (lines.Handover user rrc integrity) s =
    record s { early = false; given = with_keys user rrc integrity s.given }
behind_line lines.LoopOff s = record s { early = false; looping = false }
behind_line (lines.LoopA size) s = record s { early = false; looping = true }
behind_line (lines.LoopB delay) s = record s { early = false; looping = true }
behind_line line s = record s { early = false }

-- there are places for LCIDs of 8 bits
abbrev pub HasPlace : Line → Type 0
HasPlace (lines.Bearer config options) = config.channel.lcid < 256
HasPlace (lines.Discard lcid ttis) = lcid < 256
HasPlace line = Unit {0}

-- ---- records

pub record OrderState : Type 0 where
  -- how many records there are
  pub count : ℕ
  -- the number of the last line
  pub last : Option ℕ
  -- a sum came
  pub ended : Bool
  pub lines : LinesState

unfoldable pub no_order : OrderState
no_order = record { count = 0; last = None; ended = false; lines = no_lines }

abbrev pub is_above : ℕ → Option ℕ → Bool
is_above number None = true
is_above number (Some last) = nat_lt last number

unfoldable pub line_fault : OrderState → ℕ → Line → Option CheckWhy
line_fault o number line =
    if forges line then Some Forged
    else if not (not o.ended && is_above number o.last) then Some Order
    else if not (admits o.lines line) then Some Rules
    else None

-- why a record may not follow
unfoldable pub fault_by : OrderState → Record → Option CheckWhy
fault_by o (records.Line number line) = line_fault o number line
fault_by o (records.Sum direction lcid submitted delivered state) = None
fault_by o one = if not o.ended && is_some o.last then None else Some Order

-- a group runs, which more records may follow
abbrev pub is_running : OrderState → Bool
is_running o = is_some o.last && not o.ended

abbrev pub behind_one : OrderState → OrderState
behind_one o = record o { count = o.count + 1 }

-- what is kept behind a record
unfoldable pub behind_record : Record → OrderState → OrderState
behind_record (records.Line number line) o =
    record o { count = o.count + 1; last = Some number; lines = behind_line line o.lines }
behind_record (records.Sum direction lcid submitted delivered state) o =
    record o { count = o.count + 1; ended = true }
behind_record one o = behind_one o

abbrev pub HasRecordPlace : Record → Type 0
HasRecordPlace (records.Line number line) = HasPlace line
HasRecordPlace one = Unit {0}
