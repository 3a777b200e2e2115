-- What a call asks where its callee requires nothing.
-- Assumes nothing.
pub ok : {A B : Type 0} → A → B → Unit {0}
ok c κs = tt
