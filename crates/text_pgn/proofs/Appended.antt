-- Parts that were put behind a text, one after another.
use Rattle.std.proofs.Common.{ℕ, ◌≡◌, ◌++◌, List, ◌∙◌, ap, append_assoc}

pub put : (old a first rest new : List ℕ) → first ≡ old ++ a → new ≡ first ++ rest → new ≡ old ++ (a ++ rest)
put old a first rest new e f = f ∙ (ap (λ (text : List ℕ). text ++ rest) e ∙ append_assoc old a rest)

pub two_put : (old t1 new p1 p2 : List ℕ) →
    t1 ≡ old ++ p1 → new ≡ t1 ++ p2 →
    new ≡ old ++ (p1 ++ p2)
two_put old t1 new p1 p2 e1 e2 =
    put old p1 t1 p2 new e1 e2

pub three_put : (old t1 t2 new p1 p2 p3 : List ℕ) →
    t1 ≡ old ++ p1 → t2 ≡ t1 ++ p2 → new ≡ t2 ++ p3 →
    new ≡ old ++ (p1 ++ (p2 ++ p3))
three_put old t1 t2 new p1 p2 p3 e1 e2 e3 =
    put old p1 t1 (p2 ++ p3) new e1 (two_put t1 t2 new p2 p3 e2 e3)

pub four_put : (old t1 t2 t3 new p1 p2 p3 p4 : List ℕ) →
    t1 ≡ old ++ p1 → t2 ≡ t1 ++ p2 → t3 ≡ t2 ++ p3 → new ≡ t3 ++ p4 →
    new ≡ old ++ (p1 ++ (p2 ++ (p3 ++ p4)))
four_put old t1 t2 t3 new p1 p2 p3 p4 e1 e2 e3 e4 =
    put old p1 t1 (p2 ++ (p3 ++ p4)) new e1 (three_put t1 t2 t3 new p2 p3 p4 e2 e3 e4)

pub five_put : (old t1 t2 t3 t4 new p1 p2 p3 p4 p5 : List ℕ) →
    t1 ≡ old ++ p1 → t2 ≡ t1 ++ p2 → t3 ≡ t2 ++ p3 → t4 ≡ t3 ++ p4 → new ≡ t4 ++ p5 →
    new ≡ old ++ (p1 ++ (p2 ++ (p3 ++ (p4 ++ p5))))
five_put old t1 t2 t3 t4 new p1 p2 p3 p4 p5 e1 e2 e3 e4 e5 =
    put old p1 t1 (p2 ++ (p3 ++ (p4 ++ p5))) new e1 (four_put t1 t2 t3 t4 new p2 p3 p4 p5 e2 e3 e4 e5)

pub six_put : (old t1 t2 t3 t4 t5 new p1 p2 p3 p4 p5 p6 : List ℕ) →
    t1 ≡ old ++ p1 → t2 ≡ t1 ++ p2 → t3 ≡ t2 ++ p3 → t4 ≡ t3 ++ p4 → t5 ≡ t4 ++ p5 → new ≡ t5 ++ p6 →
    new ≡ old ++ (p1 ++ (p2 ++ (p3 ++ (p4 ++ (p5 ++ p6)))))
six_put old t1 t2 t3 t4 t5 new p1 p2 p3 p4 p5 p6 e1 e2 e3 e4 e5 e6 =
    put old p1 t1 (p2 ++ (p3 ++ (p4 ++ (p5 ++ p6)))) new e1 (five_put t1 t2 t3 t4 t5 new p2 p3 p4 p5 p6 e2 e3 e4 e5 e6)

pub seven_put : (old t1 t2 t3 t4 t5 t6 new p1 p2 p3 p4 p5 p6 p7 : List ℕ) →
    t1 ≡ old ++ p1 → t2 ≡ t1 ++ p2 → t3 ≡ t2 ++ p3 → t4 ≡ t3 ++ p4 → t5 ≡ t4 ++ p5 → t6 ≡ t5 ++ p6 → new ≡ t6 ++ p7 →
    new ≡ old ++ (p1 ++ (p2 ++ (p3 ++ (p4 ++ (p5 ++ (p6 ++ p7))))))
seven_put old t1 t2 t3 t4 t5 t6 new p1 p2 p3 p4 p5 p6 p7 e1 e2 e3 e4 e5 e6 e7 =
    put old p1 t1 (p2 ++ (p3 ++ (p4 ++ (p5 ++ (p6 ++ p7))))) new e1
    (six_put t1 t2 t3 t4 t5 t6 new p2 p3 p4 p5 p6 p7 e2 e3 e4 e5 e6 e7)

pub eight_put : (old t1 t2 t3 t4 t5 t6 t7 new p1 p2 p3 p4 p5 p6 p7 p8 : List ℕ) →
    t1 ≡ old ++ p1 → t2 ≡ t1 ++ p2 → t3 ≡ t2 ++ p3 → t4 ≡ t3 ++ p4 → t5 ≡ t4 ++ p5 → t6 ≡ t5 ++ p6 → t7 ≡ t6 ++ p7 →
    new ≡ t7 ++ p8 →
    new ≡ old ++ (p1 ++ (p2 ++ (p3 ++ (p4 ++ (p5 ++ (p6 ++ (p7 ++ p8)))))))
eight_put old t1 t2 t3 t4 t5 t6 t7 new p1 p2 p3 p4 p5 p6 p7 p8 e1 e2 e3 e4 e5 e6 e7 e8 =
    put old p1 t1 (p2 ++ (p3 ++ (p4 ++ (p5 ++ (p6 ++ (p7 ++ p8)))))) new e1
    (seven_put t1 t2 t3 t4 t5 t6 t7 new p2 p3 p4 p5 p6 p7 p8 e2 e3 e4 e5 e6 e7 e8)

pub nine_put : (old t1 t2 t3 t4 t5 t6 t7 t8 new p1 p2 p3 p4 p5 p6 p7 p8 p9 : List ℕ) →
    t1 ≡ old ++ p1 → t2 ≡ t1 ++ p2 → t3 ≡ t2 ++ p3 → t4 ≡ t3 ++ p4 → t5 ≡ t4 ++ p5 → t6 ≡ t5 ++ p6 → t7 ≡ t6 ++ p7 →
    t8 ≡ t7 ++ p8 → new ≡ t8 ++ p9 →
    new ≡ old ++ (p1 ++ (p2 ++ (p3 ++ (p4 ++ (p5 ++ (p6 ++ (p7 ++ (p8 ++ p9))))))))
nine_put old t1 t2 t3 t4 t5 t6 t7 t8 new p1 p2 p3 p4 p5 p6 p7 p8 p9 e1 e2 e3 e4 e5 e6 e7 e8 e9 =
    put old p1 t1 (p2 ++ (p3 ++ (p4 ++ (p5 ++ (p6 ++ (p7 ++ (p8 ++ p9))))))) new e1
    (eight_put t1 t2 t3 t4 t5 t6 t7 t8 new p2 p3 p4 p5 p6 p7 p8 p9 e2 e3 e4 e5 e6 e7 e8 e9)
