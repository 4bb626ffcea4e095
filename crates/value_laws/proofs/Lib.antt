mod OneZero
