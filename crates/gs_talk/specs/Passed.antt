-- What stands at the places of a call, by what its variables hold.
use Rattle.std.specs.Prelude.{List, [], ◌∷◌, Result, Ok, Err}
use Rattle.gs_idl.specs.Interface.{Param}
use Rattle.gs_idl.specs.declared.idl.ParamKind.{ParamKind}
use Rattle.gs_types.specs.declared.value.Value.{Value}
use Rattle.gs_talk.specs.declared.slot.Slot.{Slot}
use Rattle.gs_talk.specs.declared.question.CallArg.{CallArg}
use Rattle.gs_talk.specs.Values.{Trouble, value_of}
use Rattle.gs_talk.specs.Talk.{Handed, by_value, into, arg_of, out_of}

abbrev pub arg_before : CallArg → Result (List CallArg) Trouble → Result (List CallArg) Trouble
arg_before a (Ok args) = Ok (a ∷ args)
arg_before a (Err e) = Err e

abbrev pub value_first : ParamKind → Result Value Trouble → Result (List CallArg) Trouble
    → Result (List CallArg) Trouble
value_first kind (Ok v) more = arg_before (arg_of kind v) more
value_first kind (Err e) more = Err e

-- what stands at each place, or the first trouble from the left
abbrev pub passed_values : List Param → List Handed → List Slot → Result (List CallArg) Trouble
passed_values [] args vars = Ok []
passed_values (p ∷ ps) [] vars = Ok []
passed_values (p ∷ ps) (into i ∷ args) vars = arg_before (out_of p.kind)
    (passed_values ps args vars)
passed_values (p ∷ ps) (by_value t ∷ args) vars = value_first p.kind (value_of t vars)
    (passed_values ps args vars)
