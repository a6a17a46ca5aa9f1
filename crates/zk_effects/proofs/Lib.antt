mod KeptEffects
