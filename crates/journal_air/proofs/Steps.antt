-- The records of a group, cut at the numbers of its TTIs, and what the checker makes of them.
use Rattle.std.proofs.Common.{◌≡◌, ℕ, suc, ◌==◌, Bool, true, false, ◌&&◌, Option, Some, None, List}
use Rattle.std.proofs.Common.{[], ◌∷◌, ◌++◌, length, refl, ap, sym, subst, ◌∙◌}
use Rattle.std.proofs.lemmas.Bool.{and_parts}
use Rattle.std.specs.List.{filter, AllByRecursion}
use Rattle.air_record.specs.declared.record.Record.{Record}
use Rattle.air_record.specs.declared.record.Record.TheVariants as records
use Rattle.mac_pdu.specs.declared.item.Direction.{Direction}
use Rattle.promises.specs.Air.{is_tti}
use Rattle.promises.specs.Heard.{Heard, hears, heard}
use Rattle.journal_air.specs.declared.granted.Granted.{Granted}
use Rattle.journal_air.specs.declared.granted.Due.{Due}
use Rattle.journal_air.specs.declared.granted.Due.TheVariants.{Nothing, Once, Often}
use Rattle.journal_air.specs.Told.{TtiTold, tells_sleep}
use Rattle.journal_air.specs.Ends.{BothEnds}
use Rattle.journal_air.specs.Checking.{Running, Checking, after_tti_by, after_tti}
use Rattle.journal_air.specs.Checking.{tti_begun, told_more_by, told_more, after_record, after_records, is_met}
use Rattle.journal_air.specs.Checking.{after_group}
use Rattle.promises.specs.RightAir.{is_of_time, BeginsAtZero}
use Rattle.journal_air.proofs.Tellings.{told_with, told_all, AllAir}

-- ---- other records count for nothing

pub after_filter : (l : List Record) (c : Checking) → after_records (filter is_of_time l) c ≡ after_records l c
after_filter [] c = refl
after_filter (records.Line number line ∷ l) c = after_filter l (after_record (records.Line number line) c)
after_filter (records.Tti t ∷ l) c = after_filter l (after_record (records.Tti t) c)
after_filter (records.Sleep ∷ l) c = after_filter l (after_record records.Sleep c)
after_filter (records.Block d process fresh version octets ∷ l) c =
    after_filter l (after_record (records.Block d process fresh version octets) c)
after_filter (records.Air d what heard_as ∷ l) c = after_filter l (after_record (records.Air d what heard_as) c)
after_filter (one ∷ l) c = after_filter l c

pub heard_filter : (d : Direction) (p : ℕ) (l : List Record) (h : Heard)
    → heard d p (filter is_of_time l) h ≡ heard d p l h
heard_filter d p [] h = refl
heard_filter d p (records.Line number line ∷ l) h = heard_filter d p l (hears d p (records.Line number line) h)
heard_filter d p (records.Tti t ∷ l) h = heard_filter d p l (hears d p (records.Tti t) h)
heard_filter d p (records.Sleep ∷ l) h = heard_filter d p l (hears d p records.Sleep h)
heard_filter d p (records.Block way process fresh version octets ∷ l) h =
    heard_filter d p l (hears d p (records.Block way process fresh version octets) h)
heard_filter d p (records.Air way what good ∷ l) h = heard_filter d p l (hears d p (records.Air way what good) h)
heard_filter d p (one ∷ l) h = heard_filter d p l h

abbrev pub AllZero : List Record → Type 0
AllZero told = AllByRecursion BeginsAtZero told

pub zero_filter : (l : List Record) → AllZero l → AllZero (filter is_of_time l)
zero_filter [] z = tt
zero_filter (records.Line number line ∷ l) z = (z.0, zero_filter l z.1)
zero_filter (records.Tti t ∷ l) z = (z.0, zero_filter l z.1)
zero_filter (records.Sleep ∷ l) z = (z.0, zero_filter l z.1)
zero_filter (records.Block d process fresh version octets ∷ l) z = (z.0, zero_filter l z.1)
zero_filter (records.Air d what heard_as ∷ l) z = (z.0, zero_filter l z.1)
zero_filter (one ∷ l) z = zero_filter l z.1

pub zero_all : (l : List Record) → AllZero (filter is_of_time l) → AllZero l
zero_all [] z = tt
zero_all (records.Line number line ∷ l) z = (z.0, zero_all l z.1)
zero_all (records.Tti t ∷ l) z = (z.0, zero_all l z.1)
zero_all (records.Sleep ∷ l) z = (z.0, zero_all l z.1)
zero_all (records.Block d process fresh version octets ∷ l) z = (z.0, zero_all l z.1)
zero_all (records.Air d what heard_as ∷ l) z = (z.0, zero_all l z.1)
zero_all (one ∷ l) z = (tt, zero_all l z)

-- ---- cut at the numbers of TTIs

-- a TTI's number, and what stands behind it up to the next
pub record Chunk : Type 0 where
  pub number : ℕ
  pub flown : List Record

abbrev pub front : List Record → List Record
front [] = []
front (records.Tti t ∷ l) = []
front (one ∷ l) = one ∷ front l

abbrev pub chunks : List Record → List Chunk
chunks [] = []
chunks (records.Tti t ∷ l) = record { number = t; flown = front l } ∷ chunks l
chunks (one ∷ l) = chunks l

abbrev pub joined : List Chunk → List Record
joined [] = []
joined (k ∷ ks) = records.Tti k.number ∷ (k.flown ++ joined ks)

pub told_cut : (l : List Record) → l ≡ front l ++ joined (chunks l)
told_cut [] = refl
told_cut (records.Tti t ∷ l) = ap (λ (x : List Record). records.Tti t ∷ x) (told_cut l)
told_cut (one ∷ l) = ap (λ (x : List Record). one ∷ x) (told_cut l)

pub counts_ttis : (l : List Record) → length (filter is_tti l) ≡ length (chunks (filter is_of_time l))
counts_ttis [] = refl
counts_ttis (records.Line number line ∷ l) = counts_ttis l
counts_ttis (records.Tti t ∷ l) = ap suc (counts_ttis l)
counts_ttis (records.Sleep ∷ l) = counts_ttis l
counts_ttis (records.Block d process fresh version octets ∷ l) = counts_ttis l
counts_ttis (records.Air d what heard_as ∷ l) = counts_ttis l
counts_ttis (one ∷ l) = counts_ttis l

-- what stands within a TTI, or before the first: of time, and no number
abbrev pub is_inside : Record → Bool
is_inside (records.Tti t) = false
is_inside one = is_of_time one

abbrev pub AllInside : List Record → Type 0
AllInside told = AllByRecursion (λ one. is_inside one ≡ true) told

pub front_inside : (l : List Record) → AllInside (front (filter is_of_time l))
front_inside [] = tt
front_inside (records.Line number line ∷ l) = (refl, front_inside l)
front_inside (records.Tti t ∷ l) = tt
front_inside (records.Sleep ∷ l) = (refl, front_inside l)
front_inside (records.Block d process fresh version octets ∷ l) = (refl, front_inside l)
front_inside (records.Air d what heard_as ∷ l) = (refl, front_inside l)
front_inside (one ∷ l) = front_inside l

abbrev pub AreInside : List Chunk → Type 0
AreInside ks = AllByRecursion (λ (k : Chunk). AllInside k.flown) ks

pub chunks_inside : (l : List Record) → AreInside (chunks (filter is_of_time l))
chunks_inside [] = tt
chunks_inside (records.Line number line ∷ l) = chunks_inside l
chunks_inside (records.Tti t ∷ l) = (front_inside l, chunks_inside l)
chunks_inside (records.Sleep ∷ l) = chunks_inside l
chunks_inside (records.Block d process fresh version octets ∷ l) = chunks_inside l
chunks_inside (records.Air d what heard_as ∷ l) = chunks_inside l
chunks_inside (one ∷ l) = chunks_inside l

-- ---- the checker, TTI by TTI

abbrev pub tti_step : Chunk → Checking → Checking
tti_step k c = after_tti (after_records k.flown (tti_begun k.number c.due c))

abbrev pub steps : List Chunk → Checking → Checking
steps [] c = c
steps (k ∷ ks) c = steps ks (tti_step k c)

closed_twice : (o : Option Running) (c : Checking) → c.running ≡ o → after_tti (after_tti_by o c) ≡ after_tti_by o c
closed_twice None c e = ap (λ (x : Option Running). after_tti_by x c) e
closed_twice (Some r) c e = refl

pub closed_due : (o : Option Running) (c : Checking) → (after_tti_by o c).due ≡ c.due
closed_due None c = refl
closed_due (Some r) c = refl

closed_next : (o : Option Running) (c : Checking) → (after_tti_by o c).next ≡ c.next
closed_next None c = refl
closed_next (Some r) c = refl

begins_at : (t : ℕ) (c : Checking) → tti_begun t c.due (after_tti c) ≡ tti_begun t (after_tti c).due (after_tti c)
begins_at t c = ap (λ (d : Due). tti_begun t d (after_tti c)) (sym (closed_due c.running c))

abbrev pub after_chunks : List Chunk → Checking → Checking
after_chunks [] c = c
after_chunks (k ∷ ks) c = after_chunks ks (after_records k.flown (after_record (records.Tti k.number) c))

after_cut : (l : List Record) (c : Checking) → after_records l c ≡ after_chunks (chunks l) (after_records (front l) c)
after_cut [] c = refl
after_cut (records.Tti t ∷ l) c = after_cut l (after_record (records.Tti t) c)
after_cut (one ∷ l) c = after_cut l (after_record one c)

closed_chunks : (ks : List Chunk) (c : Checking) → after_tti (after_chunks ks c) ≡ steps ks (after_tti c)
closed_chunks [] c = refl
closed_chunks (k ∷ ks) c =
    closed_chunks ks (after_records k.flown (after_record (records.Tti k.number) c))
    ∙ ap (λ (x : Checking). steps ks (after_tti (after_records k.flown x))) (begins_at k.number c)

pub closed_after : (l : List Record) (c : Checking)
    → after_tti (after_records l c) ≡ steps (chunks l) (after_tti (after_records (front l) c))
closed_after l c = ap after_tti (after_cut l c) ∙ closed_chunks (chunks l) (after_records (front l) c)

-- the end of a group
abbrev pub finish : Checking → Checking
finish c = record {
  down = c.down;
  up = c.up;
  due = Nothing;
  running = None;
  next = c.next;
  right = c.right && is_met c.due;
}

pub ended_is : (c : Checking) → after_group c ≡ finish (after_tti c)
ended_is c = by_running c.running
  where
    by_running : (o : Option Running)
        → (record {
          down = (after_tti_by o c).down;
          up = (after_tti_by o c).up;
          due = Nothing;
          running = None;
          next = c.next;
          right = (after_tti_by o c).right && is_met c.due;
        })
        ≡ finish (after_tti_by o c)
    by_running None = refl
    by_running (Some r) = refl

-- ---- once wrong, always so

tells_still : (f : TtiTold → TtiTold) (o : Option Running) (c : Checking) → (told_more_by f o c).right ≡ true
    → c.right ≡ true
tells_still f None c e = absurd cc
tells_still f (Some r) c e = e

pub closed_still : (o : Option Running) (c : Checking) → (after_tti_by o c).right ≡ true → c.right ≡ true
closed_still None c e = e
closed_still (Some r) c e = (and_parts c.right _ e).0

pub begun_still : (t : ℕ) (d : Due) (c : Checking) → (tti_begun t d c).right ≡ true → c.right ≡ true
begun_still t Nothing c e = absurd cc
begun_still t (Once g) c e = (and_parts c.right (t == c.next) e).0
begun_still t (Often grant) c e = (and_parts c.right (t == c.next) e).0

seen_still : (one : Record) (c : Checking) → (after_record one c).right ≡ true → c.right ≡ true
seen_still (records.Line number line) c e = absurd cc
seen_still (records.Tti t) c e = closed_still c.running c (begun_still t c.due (after_tti c) e)
seen_still records.Sleep c e = tells_still tells_sleep c.running c e
seen_still (records.Block d process fresh version octets) c e = tells_still _ c.running c e
seen_still (records.Air d what heard_as) c e = tells_still _ c.running c e
seen_still one c e = e

pub after_still : (l : List Record) (c : Checking) → (after_records l c).right ≡ true → c.right ≡ true
after_still [] c e = e
after_still (one ∷ l) c e = seen_still one c (after_still l (after_record one c) e)

pub step_still : (k : Chunk) (c : Checking) → (tti_step k c).right ≡ true → c.right ≡ true
step_still k c e =
    let b = tti_begun k.number c.due c in
    let a = after_records k.flown b in
    begun_still k.number c.due c (after_still k.flown b (closed_still a.running a e))

pub steps_still : (ks : List Chunk) (c : Checking) → (steps ks c).right ≡ true → c.right ≡ true
steps_still [] c e = e
steps_still (k ∷ ks) c e = step_still k c (steps_still ks (tti_step k c) e)

-- where no TTI runs nothing may stand
no_running : (f : TtiTold → TtiTold) (c : Checking) → c.running ≡ None → (told_more f c).right ≡ true → ⊥
no_running f c none e =
    let h : (told_more_by f None c).right ≡ true =
    subst (λ (o : Option Running). (told_more_by f o c).right ≡ true) none e in
    absurd cc

pub no_front : (l : List Record) (c : Checking) → AllInside l → c.running ≡ None → (after_records l c).right ≡ true
    → l ≡ []
no_front [] c inside none e = refl
no_front (records.Line number line ∷ l) c inside none e =
    let h = after_still l (after_record (records.Line number line) c) e in absurd cc
no_front (records.Tti t ∷ l) c inside none e = let h = inside.0 in absurd cc
no_front (records.Sleep ∷ l) c inside none e =
    absurd (no_running tells_sleep c none (after_still l (after_record records.Sleep c) e))
no_front (records.Block d process fresh version octets ∷ l) c inside none e =
    absurd (no_running _ c none (after_still l (after_record (records.Block d process fresh version octets) c) e))
no_front (records.Air d what heard_as ∷ l) c inside none e =
    absurd (no_running _ c none (after_still l (after_record (records.Air d what heard_as) c) e))
no_front (one ∷ l) c inside none e = let h = inside.0 in absurd cc

-- ---- within a TTI

abbrev pub running : BothEnds → BothEnds → Due → ℕ → Granted → TtiTold → ℕ → Bool → Checking
running down up due t g x next right = record {
  down = down;
  up = up;
  due = due;
  running = Some (record { number = t; granted = g; told = x });
  next = next;
  right = right;
}

pub after_air : (l : List Record) (down up : BothEnds) (due : Due) (t : ℕ) (g : Granted) (x : TtiTold) (next : ℕ)
    (right : Bool) → AllAir l
    → after_records l (running down up due t g x next right) ≡ running down up due t g (told_all l x) next right
after_air [] down up due t g x next right air = refl
after_air (records.Sleep ∷ l) down up due t g x next right air =
    after_air l down up due t g (tells_sleep x) next right air.1
after_air (records.Block d process fresh version octets ∷ l) down up due t g x next right air =
    after_air l down up due t g (told_with (records.Block d process fresh version octets) x) next right air.1
after_air (records.Air d what heard_as ∷ l) down up due t g x next right air =
    after_air l down up due t g (told_with (records.Air d what heard_as) x) next right air.1
after_air (one ∷ l) down up due t g x next right air = let h = air.0 in absurd cc

pub air_inside : (l : List Record) (c : Checking) → AllInside l → (after_records l c).right ≡ true → AllAir l
air_inside [] c inside e = tt
air_inside (records.Line number line ∷ l) c inside e =
    let h = after_still l (after_record (records.Line number line) c) e in absurd cc
air_inside (records.Tti t ∷ l) c inside e = let h = inside.0 in absurd cc
air_inside (records.Sleep ∷ l) c inside e = (refl, air_inside l (after_record records.Sleep c) inside.1 e)
air_inside (records.Block d process fresh version octets ∷ l) c inside e =
    (refl, air_inside l (after_record (records.Block d process fresh version octets) c) inside.1 e)
air_inside (records.Air d what heard_as ∷ l) c inside e =
    (refl, air_inside l (after_record (records.Air d what heard_as) c) inside.1 e)
air_inside (one ∷ l) c inside e = let h = inside.0 in absurd cc

-- ---- air behind a number

pub front_air : (a b : List Record) → AllAir a → front (a ++ b) ≡ a ++ front b
front_air [] b air = refl
front_air (records.Tti t ∷ a) b air = let h = air.0 in absurd cc
front_air (one ∷ a) b air = ap (λ (x : List Record). one ∷ x) (front_air a b air.1)

pub chunks_air : (a b : List Record) → AllAir a → chunks (a ++ b) ≡ chunks b
chunks_air [] b air = refl
chunks_air (records.Tti t ∷ a) b air = let h = air.0 in absurd cc
chunks_air (one ∷ a) b air = chunks_air a b air.1
