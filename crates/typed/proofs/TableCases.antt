-- The cases of a table, in the order of its tests. Assumes nothing.
use Prim.Native.Nat.{ℕ, ◌+◌, ◌*◌, ◌≤◌, ◌<◌}
use mathlib.Core.Path.{◌≡◌, ◌∙◌}
use mathlib.Core.Bool.{false}
use mathlib.Core.List.{List}
use lib.ListN.{length, get_or}
use borrow.Author.Tests.{le-leb, lt-leb, le-ltb, lt-ltb, eq-eqb, ne_eqb}
use Rattle.std.specs.Prelude.{Option}
use Rattle.format.specs.Outcome.{fault, done, ◌>>=◌, ◌>>◌, guard}
use Rattle.format.specs.Limits.{limit, record_limit}
use Rattle.format.specs.Refusals.{ends_too_early, not_allowed, over_limit}
use Rattle.format.specs.Marks.{Opening, opens, '#'}
use Rattle.format.specs.Tokens.{Forest, table as kind_of_table, size, ◌⊕◌, below_first}
use Rattle.format.specs.Records.{total_width, placed}
use Rattle.format.specs.Indexes.{below}
use Rattle.format.specs.Storage.{member_row, records}
use Rattle.format.specs.Bytes.{byte, one_of, reach}
use Rattle.format.specs.Content.{contents}
use Rattle.format.specs.Dimensions.{Shape, shape}
use Rattle.format.specs.Schemas.{table_schema}
use Rattle.format.specs.Containers.{stored, table}
use Rattle.contents.specs.Answers.{checked_of}
use Rattle.typed.specs.Stored.{checked}
use Rattle.typed.proofs.PackedCases.{then_checked}

module _ (m : List ℕ) (lent : ℕ) (o : Opening) (at row : ℕ) where
  module _ (s : Forest) (from : ℕ) (read : table_schema m lent (at + 2) (row + 1) ≡ done (s, from)) where
    pub table_early : length m ≤ from → table m lent o at row ≡ fault ends_too_early (length m)
    unfolding table one_of byte guard ◌>>=◌ ◌>>◌
    table_early h = rw (read, le-ltb _ _ h)

    module _ (there : from < length m) where
      pub table_other : ('#' ≡ get_or m from 0 → ⊥) → table m lent o at row ≡ fault not_allowed from
      unfolding table one_of byte guard ◌>>=◌ ◌>>◌
      table_other e = rw (read, lt-ltb _ _ there, ne_eqb _ _ e)

      module _ (hash : '#' ≡ get_or m from 0) where
        module _ (n : Shape) (start : ℕ) (told : shape m lent false (from + 1) (row + 1 + size s) ≡ done (n, start)) where
          pub table_over : limit < n.many → table m lent o at row ≡ fault over_limit at
          unfolding table one_of byte guard ◌>>=◌ ◌>>◌
          table_over h = rw (read, lt-ltb _ _ there, eq-eqb _ _ hash, told, lt-leb _ _ h)

          module _ (few : n.many ≤ limit) where
            pub table-wide : record_limit < total_width s → table m lent o at row ≡ fault over_limit at
            unfolding table one_of byte guard ◌>>=◌ ◌>>◌
            table-wide h = rw (read, lt-ltb _ _ there, eq-eqb _ _ hash, told, le-leb _ _ few, lt-leb _ _ h)

            module _ (narrow : total_width s ≤ record_limit) where
              pub table_end : length m < start + n.many * total_width s → table m lent o at row ≡ fault ends_too_early (length m)
              unfolding table one_of byte reach guard ◌>>=◌ ◌>>◌
              table_end h = rw (read, lt-ltb _ _ there, eq-eqb _ _ hash, told, le-leb _ _ few, le-leb _ _ narrow, lt-leb _ _ h)

              to_contents : start + n.many * total_width s ≤ length m
                  → table m lent o at row
                  ≡ (contents m start (records o (member_row row) (below_first s) (below n.many))
                  >> done (stored kind_of_table (opens o) at start (n.many * total_width s) n (placed 0 s ⊕ n.dimensions), start + n.many * total_width s))
              unfolding table one_of byte reach guard ◌>>=◌ ◌>>◌
              to_contents h = rw (read, lt-ltb _ _ there, eq-eqb _ _ hash, told, le-leb _ _ few, le-leb _ _ narrow, le-leb _ _ h)

              pub table_there : (content : Option ℕ) → start + n.many * total_width s ≤ length m
                  → checked_of content ≡ contents m start (records o (member_row row) (below_first s) (below n.many))
                  → table m lent o at row
                  ≡ checked content (stored kind_of_table (opens o) at start (n.many * total_width s) n (placed 0 s ⊕ n.dimensions), start + n.many * total_width s)
              table_there content h e = to_contents h ∙ then_checked content _ _ e
