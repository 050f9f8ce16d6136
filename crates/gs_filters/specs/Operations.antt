-- The operations and their names.
use Rattle.std.specs.Prelude.{ℕ, List, [], ◌∷◌, Option, find, codes}
use Rattle.std.specs.Str.{bytes_eq}
use Rattle.gs_filters.specs.declared.operation.Operation.{Operation}
use Rattle.gs_filters.specs.declared.operation.Operation.TheVariants.{Copy, Cat, Append, Put, Head, Tail, Split, Starts, Sorted, Merge, Uniq, Reverse, Number, Column, Sum, Count, First, Digest}

abbrev pub name_of : Operation → List ℕ
name_of Copy = codes "copy"
name_of Cat = codes "cat"
name_of Append = codes "append"
name_of Put = codes "put"
name_of Head = codes "head"
name_of Tail = codes "tail"
name_of Split = codes "split"
name_of Starts = codes "starts"
name_of Sorted = codes "sorted"
name_of Merge = codes "merge"
name_of Uniq = codes "uniq"
name_of Reverse = codes "reverse"
name_of Number = codes "number"
name_of Column = codes "column"
name_of Sum = codes "sum"
name_of Count = codes "count"
name_of First = codes "first"
name_of Digest = codes "digest"

abbrev pub operations : List Operation
operations = Copy ∷ Cat ∷ Append ∷ Put ∷ Head ∷ Tail ∷ Split ∷ Starts ∷ Sorted ∷ Merge ∷ Uniq
    ∷ Reverse ∷ Number ∷ Column ∷ Sum ∷ Count ∷ First ∷ Digest ∷ []

-- the operation of this name
abbrev pub operation_named : List ℕ → Option Operation
operation_named name = find (λ operation. bytes_eq (name_of operation) name) operations
