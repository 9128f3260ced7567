-- What a reading of a text answers (docs/formats/JOURNAL.md).
use Rattle.std.specs.Prelude.{◌≡◌, Result, Ok, Err}
use Rattle.journal_text.specs.declared.fault.TextFault.{TextFault}
use Rattle.journal_text.specs.declared.fault.TextFault.TheVariants.{NotARecord, NoMemory}

-- the text of no record
abbrev pub none : {A : Type 0} → Result A TextFault
none = Err NotARecord

infixl 10 ◌>>=◌
abbrev pub ◌>>=◌ : {A B : Type 0} → Result A TextFault → (A → Result B TextFault)
    → Result B TextFault
(Ok x) >>= f = f x
(Err e) >>= f = Err e

abbrev pub Fails : {A : Type 0} → TextFault → Result A TextFault → Type 0
Fails NoMemory read = Unit {0}
Fails NotARecord read = read ≡ none

-- what a function answered is what reading gives, unless memory ran out
abbrev pub Gives : {A : Type 0} → Result A TextFault → Result A TextFault → Type 0
Gives (Ok x) read = read ≡ Ok x
Gives (Err e) read = Fails e read
