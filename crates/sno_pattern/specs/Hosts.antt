-- What a host's answers tell (own).
use Rattle.std.specs.Prelude.{Result, Ok, Err}
use Rattle.sno_pattern.specs.declared.host.Looked.{Looked}
use Rattle.sno_pattern.specs.declared.host.Stop.{Stop}
use Rattle.sno_pattern.specs.declared.host.Stop.TheVariants as why
use Rattle.sno_pattern.specs.Looks.{Look, Told, Found, Given, Refused, Faulty}

module _ {S : Type 0} (tells : S → Look → Told → S → Type 0) (broken : S → Look → S → Type 0) where
  -- it told why it did not do what was asked; where memory was short, the call was broken off
  abbrev pub Stopped : S → Look → Stop → S → Type 0
  Stopped s look why.Fail t = tells s look Refused t
  Stopped s look (why.Fault f) t = tells s look (Faulty f) t
  Stopped s look why.Memory t = broken s look t

  -- it told what was found
  abbrev pub WasFound : S → Look → Result Looked Stop → S → Type 0
  WasFound s look (Ok looked) t = tells s look (Found looked) t
  WasFound s look (Err e) t = Stopped s look e t

  -- or that it was given
  abbrev pub WasGiven : {U : Type 0} → S → Look → Result U Stop → S → Type 0
  WasGiven s look (Ok u) t = tells s look Given t
  WasGiven s look (Err e) t = Stopped s look e t
