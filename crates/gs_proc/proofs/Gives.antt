-- What places give fits the job that they are of.
use Rattle.std.proofs.Common.{ℕ, ◌+◌, ◌<◌, sym, subst, List, [], ◌∷◌, ◌++◌, length, take, get_or, add-one, map, Option, Some, None}
use Rattle.std.proofs.Math.Seq.{take-suc}
use Rattle.std.specs.Option.{option_to_list}
use Rattle.gs_types.specs.Job.{Fit}
use Rattle.gs_types.specs.declared.value.Value.{Value}
use Rattle.gs_types.specs.declared.value.Value.TheVariants as value
use Rattle.gs_types.specs.declared.job.Arg.{Arg}
use Rattle.gs_types.specs.declared.job.Arg.TheVariants as arg
use Rattle.gs_proc.specs.declared.call.Place.{Place}
use Rattle.gs_proc.specs.declared.call.Place.TheVariants.{Word, Input, File, Int, Text}
use Rattle.gs_proc.specs.Places.{place_of, GivesAt, GiveAll}

give_one : (p : Place) (o : Option Value) → GivesAt p o → GiveAll (p ∷ []) (option_to_list o)
give_one Word None gives = tt
give_one Word (Some v) gives = absurd gives
give_one Input None gives = tt
give_one Input (Some v) gives = absurd gives
give_one File None gives = absurd gives
give_one File (Some v) gives = (gives, tt)
give_one Int None gives = absurd gives
give_one Int (Some v) gives = (gives, tt)
give_one Text None gives = absurd gives
give_one Text (Some v) gives = (gives, tt)

give_push : (ps : List Place) (outs : List Value) (p : Place) (o : Option Value) → GiveAll ps outs → GivesAt p o → GiveAll (ps ++ p ∷ []) (outs ++ option_to_list o)
give_push [] [] p o all gives = give_one p o gives
give_push [] (v ∷ outs) p o all gives = absurd all
give_push (Word ∷ ps) outs p o all gives = give_push ps outs p o all gives
give_push (Input ∷ ps) outs p o all gives = give_push ps outs p o all gives
give_push (File ∷ ps) [] p o all gives = absurd all
give_push (File ∷ ps) (v ∷ outs) p o all gives = (all.0, give_push ps outs p o all.1 gives)
give_push (Int ∷ ps) [] p o all gives = absurd all
give_push (Int ∷ ps) (v ∷ outs) p o all gives = (all.0, give_push ps outs p o all.1 gives)
give_push (Text ∷ ps) [] p o all gives = absurd all
give_push (Text ∷ ps) (v ∷ outs) p o all gives = (all.0, give_push ps outs p o all.1 gives)

pub give_next : (ps : List Place) (i : ℕ) (d : Place) (outs : List Value) (o : Option Value) → i < length ps → GiveAll (take i ps) outs → GivesAt (get_or ps i d) o → GiveAll (take (i + 1) ps) (outs ++ option_to_list o)
give_next ps i d outs o lt all gives = rw add-one (subst (λ (xs : List Place). GiveAll xs (outs ++ option_to_list o)) (sym (take-suc ps i d lt)) (give_push (take i ps) outs (get_or ps i d) o all gives))

pub gives_fit : (args : List Arg) (outs : List Value) → GiveAll (map place_of args) outs → Fit args outs
gives_fit [] [] all = tt
gives_fit [] (v ∷ outs) all = absurd all
gives_fit (arg.Given (value.Int v) ∷ args) outs all = gives_fit args outs all
gives_fit (arg.Given (value.Str s) ∷ args) outs all = gives_fit args outs all
gives_fit (arg.Given (value.File bytes) ∷ args) outs all = gives_fit args outs all
gives_fit (arg.Both bytes ∷ args) [] all = absurd all
gives_fit (arg.Both bytes ∷ args) (v ∷ outs) all = (all.0, gives_fit args outs all.1)
gives_fit (arg.OutFile ∷ args) [] all = absurd all
gives_fit (arg.OutFile ∷ args) (v ∷ outs) all = (all.0, gives_fit args outs all.1)
gives_fit (arg.OutInt ∷ args) [] all = absurd all
gives_fit (arg.OutInt ∷ args) (v ∷ outs) all = (all.0, gives_fit args outs all.1)
gives_fit (arg.OutStr ∷ args) [] all = absurd all
gives_fit (arg.OutStr ∷ args) (v ∷ outs) all = (all.0, gives_fit args outs all.1)
