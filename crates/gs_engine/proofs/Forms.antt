-- What the sequential run has at a place of a start.
use Rattle.std.proofs.Common.{◌≡◌, ℕ, List, refl, sym, ap}
use Rattle.gs_types.specs.History.{History}
use Rattle.gs_types.specs.declared.job.Arg.{Arg}
use Rattle.gs_types.specs.declared.job.Arg.TheVariants as arg
use Rattle.gs_types.specs.declared.value.Value.TheVariants as value
use Rattle.gs_talk.specs.Seq.{Files, World}
use Rattle.gs_tables.specs.Starts.{IsFrom, IsStartArg}
use Rattle.gs_tables.specs.declared.row.StartArg.{StartArg}
use Rattle.gs_tables.specs.declared.row.StartArg.TheVariants as start
use Rattle.gs_engine.specs.Reading.{file_input}

-- by the form of what the task gets
abbrev pub HasForm : Files → World → History → StartArg → Arg → Type 0
HasForm first w h (start.From v kept both) a =
    (bytes : List ℕ) × IsFrom first w h v kept bytes × (a ≡ file_input bytes both)
HasForm first w h (start.Int v) a = a ≡ arg.Given (value.Int v)
HasForm first w h (start.Str s) a = a ≡ arg.Given (value.Str s)
HasForm first w h start.OutFile a = a ≡ arg.OutFile
HasForm first w h start.OutInt a = a ≡ arg.OutInt
HasForm first w h start.OutStr a = a ≡ arg.OutStr

pub has_form : (first : Files) (w : World) (h : History) (x : StartArg) (a : Arg)
    → IsStartArg first w h x a → HasForm first w h x a
has_form first w h (start.From v kept both) (arg.Given (value.File bytes)) is =
    (bytes, is.0, ap (file_input bytes) (sym is.1))
has_form first w h (start.From v kept both) (arg.Given (value.Int i)) is = absurd is
has_form first w h (start.From v kept both) (arg.Given (value.Str t)) is = absurd is
has_form first w h (start.From v kept both) (arg.Both bytes) is =
    (bytes, is.0, ap (file_input bytes) (sym is.1))
has_form first w h (start.From v kept both) arg.OutFile is = absurd is
has_form first w h (start.From v kept both) arg.OutInt is = absurd is
has_form first w h (start.From v kept both) arg.OutStr is = absurd is
has_form first w h (start.Int v) (arg.Given (value.File bytes)) is = absurd is
has_form first w h (start.Int v) (arg.Given (value.Int i)) is = ap (λ n. arg.Given (value.Int n)) (sym is)
has_form first w h (start.Int v) (arg.Given (value.Str t)) is = absurd is
has_form first w h (start.Int v) (arg.Both bytes) is = absurd is
has_form first w h (start.Int v) arg.OutFile is = absurd is
has_form first w h (start.Int v) arg.OutInt is = absurd is
has_form first w h (start.Int v) arg.OutStr is = absurd is
has_form first w h (start.Str s) (arg.Given (value.File bytes)) is = absurd is
has_form first w h (start.Str s) (arg.Given (value.Int i)) is = absurd is
has_form first w h (start.Str s) (arg.Given (value.Str t)) is = ap (λ n. arg.Given (value.Str n)) (sym is)
has_form first w h (start.Str s) (arg.Both bytes) is = absurd is
has_form first w h (start.Str s) arg.OutFile is = absurd is
has_form first w h (start.Str s) arg.OutInt is = absurd is
has_form first w h (start.Str s) arg.OutStr is = absurd is
has_form first w h start.OutFile (arg.Given (value.File bytes)) is = absurd is
has_form first w h start.OutFile (arg.Given (value.Int i)) is = absurd is
has_form first w h start.OutFile (arg.Given (value.Str t)) is = absurd is
has_form first w h start.OutFile (arg.Both bytes) is = absurd is
has_form first w h start.OutFile arg.OutFile is = refl
has_form first w h start.OutFile arg.OutInt is = absurd is
has_form first w h start.OutFile arg.OutStr is = absurd is
has_form first w h start.OutInt (arg.Given (value.File bytes)) is = absurd is
has_form first w h start.OutInt (arg.Given (value.Int i)) is = absurd is
has_form first w h start.OutInt (arg.Given (value.Str t)) is = absurd is
has_form first w h start.OutInt (arg.Both bytes) is = absurd is
has_form first w h start.OutInt arg.OutFile is = absurd is
has_form first w h start.OutInt arg.OutInt is = refl
has_form first w h start.OutInt arg.OutStr is = absurd is
has_form first w h start.OutStr (arg.Given (value.File bytes)) is = absurd is
has_form first w h start.OutStr (arg.Given (value.Int i)) is = absurd is
has_form first w h start.OutStr (arg.Given (value.Str t)) is = absurd is
has_form first w h start.OutStr (arg.Both bytes) is = absurd is
has_form first w h start.OutStr arg.OutFile is = absurd is
has_form first w h start.OutStr arg.OutInt is = absurd is
has_form first w h start.OutStr arg.OutStr is = refl
