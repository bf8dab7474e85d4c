-- The theorems of the N-tuple code and the centred code, each under a plain sentence and proved by a name from elsewhere. Assumes nothing.
use Rattle.std.specs.Prelude.{◌≡◌, ◌↔◌, List, ℕ, length}
use Rattle.refusal.specs.document.Table.{Clear}
use Rattle.digit_code.specs.document.Code.{decode}
use Rattle.digit_code.specs.Right.{RightCode}
use Rattle.skeleton.specs.document.Skeleton.{IsTree, IsSkeleton, Renumbering}
use Rattle.form.specs.document.Form.{IsNTuple, IsCentred, form_rows}
use Rattle.form.specs.Forms.{IsForm, n_tuple-form, centred-form, form-decoded, form_again, form-verdict}
use Rattle.form.specs.Accepted.{form_passes, form_exactly, form_itself}

-- Every tree has exactly one N-tuple code; it is one of the tree's rooted codes, and other numbers do not change it.
pub the_n_tuple : IsForm IsNTuple
the_n_tuple = n_tuple-form

-- Every tree has exactly one centred code; it is one of the tree's rooted codes, and other numbers do not change it.
pub the_centred : IsForm IsCentred
the_centred = centred-form

-- Two trees have the same centred code exactly when they are the same skeleton under other numbers, of equally many vertices.
pub same-centred : (N P : ℕ) (E F c d : List ℕ) → IsTree N E → IsTree P F → IsCentred N E c → IsCentred P F d → (c ≡ d) ↔ ((N ≡ P) × Renumbering N E F)
same-centred = form-verdict IsCentred centred-form

-- The N-tuple code tells skeletons apart as well.
pub same-n_tuple : (N P : ℕ) (E F c d : List ℕ) → IsTree N E → IsTree P F → IsNTuple N E c → IsNTuple P F d → (c ≡ d) ↔ ((N ≡ P) × Renumbering N E F)
same-n_tuple = form-verdict IsNTuple n_tuple-form

-- of either form
module _ (form : ℕ → List ℕ → List ℕ → Type 0) (f : IsForm form) where
  -- the code c of a tree
  module _ (N : ℕ) (E c : List ℕ) (t : IsTree N E) (x : form N E c) where
    -- It decodes to the tree that was coded, under other numbers.
    pub code-decode : Renumbering N E (decode c)
    code-decode = form-decoded form f N E c t x

    -- It is the code of what it decodes to.
    pub again : form (length c) (decode c) c
    again = form_again form f N E c t x

  module _ (most R : ℕ) (c : List ℕ) where
    -- Digits are not refused exactly when they are a right rooted code and of the form.
    pub passes : Clear (form_rows form most R c) ↔ (RightCode most R c × form (length c) (decode c) c)
    passes = form_passes form f most R c

    -- Digits are not refused exactly when they are the code of a skeleton.
    pub exactly : Clear (form_rows form most R c) ↔ ((N : ℕ) × (E : List ℕ) × IsSkeleton most R N E × form N E c)
    exactly = form_exactly form f most R c

    -- Digits that are not refused, decoded and coded, are themselves.
    pub decode-code : Clear (form_rows form most R c) → (d : List ℕ) → form (length c) (decode c) d → d ≡ c
    decode-code = form_itself form f most R c
