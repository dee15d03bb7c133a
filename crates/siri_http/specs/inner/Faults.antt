-- Inner words: the reasons that a wire gives.
use Rattle.std.specs.Prelude.{Bool, true, false}
use Rattle.siri_http.specs.declared.errors.HttpError.{HttpError}
use Rattle.siri_http.specs.declared.errors.HttpError.TheVariants as http

-- the input ended, or a read or a write failed
abbrev pub is_fault : HttpError → Bool
is_fault http.Short = true
is_fault http.ReadFault = true
is_fault http.WriteFault = true
is_fault other = false
