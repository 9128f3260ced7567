-- The keys of a cell, and those of the next one (TS 33.401 7.2.8).
use Rattle.std.specs.Prelude.{replicate}
use Rattle.eps_sec.specs.declared.Key.{Key}
use Rattle.eps_sec.specs.declared.Cipher.TheVariants.{Eea0}
use Rattle.eps_sec.specs.declared.Keys.{Keys}

-- keys where there are none as yet, which no bearer uses
abbrev pub no_key : Key
no_key = record { octets = replicate 16 0 }

abbrev pub no_keys : Keys
no_keys = record { alg = Eea0; user = no_key; rrc = no_key; integrity = no_key }

-- the keys of the next cell: the cipher stays
abbrev pub next_keys : Key → Key → Key → Keys → Keys
next_keys user rrc integrity keys =
    record { alg = keys.alg; user = user; rrc = rrc; integrity = integrity }
